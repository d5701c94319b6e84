-- The lines of counts.
use Rattle.std.specs.Prelude.{ℕ, List, ◌++◌, codes}
use Rattle.std.specs.Fmt.{decimal}
use Rattle.command_lines.specs.declared.counts.Counts.{Counts}

-- what is counted, and its number
abbrev pub count_line : List ℕ → ℕ → List ℕ
count_line what count = what ++ (codes " " ++ decimal count) ++ codes "\n"

abbrev pub count_lines : Counts → List ℕ
count_lines counts =
    count_line (codes "documents") counts.documents ++ count_line (codes "diagnostics") counts.diagnostics ++ count_line (codes "arrows") counts.arrows
    ++ count_line (codes "references") counts.references ++ count_line (codes "edits") counts.edits
