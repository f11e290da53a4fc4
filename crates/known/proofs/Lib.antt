mod Inexact
mod Executing
