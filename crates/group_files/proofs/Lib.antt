mod RenameLaws
mod FileWalks
mod PublishedLaws
mod NameFiles
mod ExactLaws
