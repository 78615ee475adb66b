mod Asks
mod Ticking
mod Watched
