mod Found
mod Operations
mod Times
mod Words
