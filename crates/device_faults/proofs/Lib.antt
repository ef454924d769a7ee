mod Rows
mod Works
