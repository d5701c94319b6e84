pub mod NewEntries  -- Entries of forms that go on, under the numbers of the next program (R7RS 4.3, 5.3)
