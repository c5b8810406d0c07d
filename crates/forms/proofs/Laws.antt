-- Laws of the definitions, and the working definitions as the calculus' own
pub mod Official
pub mod Forms
pub mod Shapes
