-- What answers of the code's functions say of what they compute.
use Rattle.std.specs.Prelude.{◌≡◌, ◌≤◌, String, ◌⊎◌, ℕ, List, Option, Some, None, Result, Ok, Err, Bool}
use Rattle.std.specs.Borrow.{Bor}
use Rattle.std.specs.Option.{option_to_list}
use Rattle.std.specs.String.{string_bytes}
use Rattle.std.specs.Global.{Global}
use Rattle.std.specs.Str.{chars}
use Rattle.scheme_tokens.specs.Lexical.{is_hex_digit, is_blank, is_inside, TokenKind}
use Rattle.scheme_tokens.specs.Faults.{Fault, FaultAt, bad_token, open_string, open_bar, open_comment, label, directive}
use Rattle.scheme_tokens.specs.Views.{kind_of, token_of, read_fault}
use Rattle.scheme_tokens.specs.Mirror.Reading.{Next, found, ended}
use Rattle.scheme_tokens.specs.declared.fault.Fault as code_fault
use Rattle.scheme_tokens.specs.declared.fault.Fault.TheVariants as faults
use Rattle.scheme_tokens.specs.declared.fault.ScanFault as code_scan
use Rattle.scheme_tokens.specs.declared.fault.ScanFault.TheVariants as scans
use Rattle.scheme_tokens.specs.declared.fault.ReadFault as code_read
use Rattle.scheme_tokens.specs.declared.fault.ReadFault.TheVariants as reads
use Rattle.scheme_tokens.specs.declared.character.Class as code_class
use Rattle.scheme_tokens.specs.declared.character.Class.TheVariants as classes
use Rattle.scheme_tokens.specs.declared.token.TokenKind as code_kind
use Rattle.scheme_tokens.specs.declared.token.Token as code

abbrev pub test_of : code_class.Class → ℕ → Bool
test_of classes.Inside c = is_inside c
test_of classes.HexDigit c = is_hex_digit c
test_of classes.Blank c = is_blank c

abbrev pub fault_of : code_fault.Fault → Fault
fault_of faults.BadToken = bad_token
fault_of faults.OpenString = open_string
fault_of faults.OpenBar = open_bar
fault_of faults.OpenComment = open_comment
fault_of faults.Label = label
fault_of faults.Directive = directive

-- a number up to the last character's is told exactly, and of a greater one that it is greater
abbrev pub IsCapped : ℕ → ℕ → Type 0
IsCapped told n = (told ≡ n) ⊎ ((0x11_0000 ≤ told) × (0x11_0000 ≤ n))

-- what comes next, as the code tells it
abbrev pub IsNext : Result (Option (code.Token × Bor (List ℕ))) code_read.ReadFault → Next → Type 0
IsNext (Ok None) n = n ≡ ended None
IsNext (Ok (Some t)) n = n ≡ found (token_of t.0) (chars t.1.now)
IsNext (Err reads.Memory) n = Unit {0}
IsNext (Err (reads.At number span)) n = (f : FaultAt) × (n ≡ ended (Some f)) × (reads.At number span ≡ read_fault f)

-- what an element means, and the text behind it
abbrev pub meant_at : Option ℕ × Bor (List ℕ) → List ℕ × List ℕ
meant_at x = (option_to_list x.0, chars x.1.now)

-- what stands between marks, and the text behind it
abbrev pub quoted_at : String Global × Bor (List ℕ) → List ℕ × List ℕ
quoted_at x = (chars (string_bytes x.0), chars x.1.now)

-- a token, and the text behind it
abbrev pub token_at : code_kind.TokenKind × Bor (List ℕ) → TokenKind × List ℕ
token_at x = (kind_of x.0, chars x.1.now)

-- what a function answered, seen by view, is what reading gives, unless memory ran out
abbrev pub Fails : {Y : Type 0} → code_scan.ScanFault → Result Y Fault → Type 0
Fails scans.Memory read = Unit {0}
Fails (scans.Fault f) read = read ≡ Err (fault_of f)

abbrev pub Gives : {X Y : Type 0} → (X → Y) → Result X code_scan.ScanFault → Result Y Fault → Type 0
Gives view (Ok x) read = read ≡ Ok (view x)
Gives view (Err e) read = Fails e read

-- the same where memory can't run out
abbrev pub Is : {X Y : Type 0} → (X → Y) → Result X code_fault.Fault → Result Y Fault → Type 0
Is view (Ok x) read = read ≡ Ok (view x)
Is view (Err f) read = read ≡ Err (fault_of f)
