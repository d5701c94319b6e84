pub mod Names  -- What binders, uses and macros of the code stand for, in a form of a unit
pub mod Cores  -- What a core of the code stands for, in a form of a unit
pub mod Levels  -- What the binders of cores bind
pub mod Traces  -- What the fault of a broken form stands for, and what was met in it
pub mod Units  -- What the units and the program of the code stand for
