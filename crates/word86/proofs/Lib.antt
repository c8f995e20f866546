mod Shifts
mod Quotients
