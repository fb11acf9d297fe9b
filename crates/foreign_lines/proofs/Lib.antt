mod Handing
mod Verdicts
mod Digested
