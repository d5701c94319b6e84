pub mod Entries  -- What is kept of the forms of units from one program to the next
pub mod AtWork  -- A form of a unit at work, at both of its turns
pub mod CarriedEntries  -- What a form that was worked on came to, as an entry; and keepings that keep all of some forms
pub mod Homes  -- Homes of included forms that go on
pub mod CarriedOver  -- A form that is carried from a program to the next, and what may be kept of it
pub mod HomeUris  -- Homes of included forms by their uris, under numbers of an event; and forms of a kind that stand at the same places of two texts
pub mod CarriedKeeping  -- The keeping of a program that keeps exactly the forms that are carried from the program before
pub mod NotedEntries  -- What is noted of an entry, and that it has its answers where the turns of the entry's form come
