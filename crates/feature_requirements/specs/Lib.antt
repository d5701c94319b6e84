pub mod Faults  -- The faults of forms that name no identifier
pub mod Judged  -- How the requirements of `cond-expand` are judged (R7RS 4.2.1, 5.6.1)
