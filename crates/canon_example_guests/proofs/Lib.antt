mod Lawful
mod Meets
