pub mod HomesListed  -- What holds of the homes of all data of texts that can be included holds of the home of each form of a unit
pub mod PartsThere  -- The program of a document that can be included is among the units, a part, by the number of the program
