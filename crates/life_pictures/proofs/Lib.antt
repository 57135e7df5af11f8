pub mod CornersLemmas
pub mod DocumentLemmas
pub mod ExtentLemmas
pub mod PictureFramesLemmas
pub mod LawsLemmas
mod PictureLinesLemmas
pub mod PartLemmas
pub mod PictureRunsLemmas
pub mod TitleLemmas
pub mod DrawWordsLemmas
pub mod DrawProgramLemmas
