mod Done
mod Asked
mod Rules
