mod Causes
mod Places
