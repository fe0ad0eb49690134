mod Also
mod Lent
