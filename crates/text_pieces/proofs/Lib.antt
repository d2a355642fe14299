pub mod PieceTokens
pub mod PieceTexts
pub mod PieceLengths
