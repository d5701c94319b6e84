-- The fields of an object, and what each may hold (LSP 3.17, "Base types" and "Basic JSON Structures").
use Rattle.std.specs.Prelude.{◌≡◌, ℕ, ℤ, List, Bool, Option, Some, None, Result, Ok, Err, option_map, option_and_then, nat_le, if◌then◌else◌, codes}
use Rattle.serde_json.specs.Data.{Data, null, boolean, number, string, array, object, Items}
use Rattle.serde_json.specs.Find.{get, as_bool, as_number, as_str, as_array, as_i64, as_u64}
use Rattle.ls_base.specs.declared.places.Pos.{Pos}
use Rattle.ls_base.specs.declared.places.Range.{Range}
use Rattle.lsp_messages.specs.declared.fault.Fault.{Fault}
use Rattle.lsp_messages.specs.declared.fault.Fault.TheVariants.{Bad}
use Rattle.lsp_messages.specs.declared.fault.ReadError.{ReadError}
use Rattle.lsp_messages.specs.declared.fault.ReadError.TheVariants as errors
use Rattle.lsp_messages.specs.declared.message.Id.{Id}
use Rattle.lsp_messages.specs.declared.message.Id.TheVariants.{Number, Name}

infixl 10 ◌>>=◌
abbrev pub ◌>>=◌ : {A B : Type 0} → Result A Fault → (A → Result B Fault) → Result B Fault
(Ok x) >>= f = f x
(Err e) >>= f = Err e

-- What a function answered, seen by view, is what the definition gives, unless memory ran out.
abbrev pub Fails : {B : Type 0} → ReadError → Result B Fault → Type 0
Fails errors.Memory given = Unit {0}
Fails (errors.Fault fault) given = given ≡ Err fault

abbrev pub Gives : {A B : Type 0} → (A → B) → Result A ReadError → Result B Fault → Type 0
Gives view (Ok x) given = given ≡ Ok (view x)
Gives view (Err e) given = Fails e given

-- what must be there
abbrev pub needed_value : {A : Type 0} → Option A → Result A Fault
needed_value None = Err Bad
needed_value (Some x) = Ok x

-- a field of an object
abbrev pub field_at : List ℕ → Data → Result Data Fault
field_at key d = needed_value (get key d)

-- a string
abbrev pub text_at : List ℕ → Data → Result (List ℕ) Fault
text_at key d = field_at key d >>= λ value. needed_value (as_str value)

-- a boolean
abbrev pub boolean_at : List ℕ → Data → Result Bool Fault
boolean_at key d = field_at key d >>= λ value. needed_value (as_bool value)

-- a list
abbrev pub list_at : List ℕ → Data → Result Items Fault
list_at key d = field_at key d >>= λ value. needed_value (as_array value)

-- a whole number that fits 64 bits with its sign
abbrev pub integer_at : List ℕ → Data → Result ℤ Fault
integer_at key d = field_at key d >>= λ value. needed_value (option_and_then as_i64 (as_number value))

-- a number of a position: whole, from 0 to 2147483647 (LSP 3.17, uinteger)
abbrev pub at_most : ℕ → ℕ → Result ℕ Fault
at_most limit n = if nat_le n limit then Ok n else Err Bad

abbrev pub uinteger_at : List ℕ → Data → Result ℕ Fault
uinteger_at key d = field_at key d >>= λ value. needed_value (option_and_then as_u64 (as_number value)) >>= at_most 2147483647

abbrev pub position_at : List ℕ → Data → Result Pos Fault
position_at key d = do
  position ← field_at key d
  line ← uinteger_at (codes "line") position
  character ← uinteger_at (codes "character") position
  Ok (record { line = line; character = character })

abbrev pub range_of : Data → Result Range Fault
range_of d = do
  start ← position_at (codes "start") d
  end ← position_at (codes "end") d
  Ok (record { start = start; end = end })

-- an id: a whole number that fits 64 bits with its sign, or a string
abbrev pub id_of : Data → Option Id
id_of null = None
id_of (boolean b) = None
id_of (number n) = option_map Number (as_i64 n)
id_of (string s) = Some (Name s)
id_of (array ds) = None
id_of (object ms) = None
