pub mod PairParts
pub mod TimesParts
pub mod BeforeParts
pub mod OneList
pub mod OneContent
pub mod StepLists
pub mod StepBefores
