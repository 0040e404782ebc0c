mod Words
mod Read
mod Valid
mod Numbers
mod Found
