pub mod KvFile
pub mod KvRules
