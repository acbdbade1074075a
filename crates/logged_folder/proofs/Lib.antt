mod Leavings
mod LogCalls
mod Logs
mod Parts
