-- Laws of the definitions, and the working definitions as the calculus' own
pub mod Numbers
pub mod Official
pub mod Bytewise
pub mod Listed
pub mod Gathering
