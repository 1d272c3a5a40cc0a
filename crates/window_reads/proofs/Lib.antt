pub mod NumberWalks
pub mod Stands
pub mod NumberPages
pub mod Outside
