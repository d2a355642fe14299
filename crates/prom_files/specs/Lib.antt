pub mod LayoutStep
pub mod ImageTexts
pub mod ImagesStep
pub mod WordsStep
