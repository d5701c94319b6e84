pub mod SameTurns  -- Two ways that do the same at each turn of one of them do the same
pub mod KeptSearched  -- A turn of a form of a unit that imports nothing of its own, where nothing local is there, comes to the same where definitions go through the notes that speak of their identifiers alone; and so it goes on
pub mod KeptPrograms  -- A unit of a program of which some forms are kept comes to the same where its definitions go through the notes that speak of their identifiers alone
