mod Jumps
mod Orders
mod Steps
mod Runs
mod Held
mod ClockSteps
mod TextSteps
mod Addresses
