-- What of an identifier is hashed.
use Rattle.std.specs.Prelude.{ℕ, ◌+◌, ◌*◌, ◌%◌, List}
use Rattle.std.specs.Hash as fed
use Rattle.syntax_tree.specs.declared.symbols.Ident as code
use Rattle.syntax_tree.specs.declared.symbols.Ident.TheVariants.{Written, Inserted}
use Rattle.syntax_tree.specs.declared.symbols.UseNo.{UseNo}

-- the lower half of a place in a table
abbrev pub half : ℕ → ℕ
half n = n % 4294967296

-- the parts of an identifier in one number
abbrev pub written_code : ℕ → ℕ → ℕ
written_code unit symbol = unit * 4294967296 + half symbol

abbrev pub inserted_code : ℕ → UseNo → ℕ
inserted_code id k = (half id * 4294967296 + k.unit) * 18446744073709551616 + (k.form * 4294967296 + k.count)

abbrev pub ident_hashed : code.Ident → List (List ℕ)
ident_hashed (Written unit symbol) = fed.u64 (written_code unit symbol)
ident_hashed (Inserted id number) = fed.u128 (inserted_code id number)
