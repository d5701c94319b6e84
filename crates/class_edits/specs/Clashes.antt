-- The members of a class that would get two new names.
use Rattle.std.specs.Prelude.{nat_lt, List, [], map, filter, length, Bool}
use Rattle.scheme_model.specs.declared.Occ.{Occ}
use Rattle.scheme_model.specs.Answers.{Facts, bytes_before, ordered_by}
use Rattle.scheme_model.specs.Diagnostics.{Bytes}
use Rattle.scheme_model.specs.Spelling.{Link, class_of, prefixes_of}

abbrev pub has_two : List Link → Occ → Bool
has_two ls o = nat_lt 1 (length (prefixes_of ls o []))

-- the members of the class of an occurrence that have two prefixes
abbrev pub clashing : List Link → Occ → List Occ
clashing ls o = filter (has_two ls) (class_of ls o)

-- where they stand, by document and start
abbrev pub clashes : Facts → Occ → List Bytes
clashes f o = ordered_by bytes_before (map f.bytes (clashing f.links o))
