mod Level
mod Settling
