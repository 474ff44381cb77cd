mod Following
mod Staying
