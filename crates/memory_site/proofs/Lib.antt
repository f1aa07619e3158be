mod Refusing
mod Together
