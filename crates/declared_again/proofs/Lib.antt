pub mod EndingSides  -- A form that is gone through has made in its unit what its definitions made, at each moment
pub mod MadeAgain  -- What a form leaves is made again by its definitions, one after another
pub mod OwnNotes  -- A form's notes grow while it is gone through
pub mod RootMoments  -- While a form is gone through, nothing is inside a body
pub mod OutcomesOutside  -- How a definition of a form ends is told by the state at its moment without what is local
