pub mod Pieces
pub mod PieceLines
