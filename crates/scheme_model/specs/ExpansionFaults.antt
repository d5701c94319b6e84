-- Why a form is broken. A fault that names an identifier tells it and its place.
use Rattle.std.specs.Prelude.{ℕ, List, Option, Some, None, Result, Ok, Err}
use Rattle.scheme_model.specs.declared.Occ.{Occ}

-- an identifier of a kind with its place
pub record Named (A : Type 0) : Type 0 where
  pub name : A
  pub occ : Option Occ

abbrev pub named : {A : Type 0} → A → Option Occ → Named A
named i o = record { name = i; occ = o }

abbrev pub named_map : {A B : Type 0} → (A → B) → Named A → Named B
named_map f n = record { name = f n.name; occ = n.occ }

pub data Fault (A : Type 0) : Type 0 where
  BadRules : Fault A
  TwoEllipses : Fault A
  DuplicateVariable : Named A → Fault A
  EllipsisDepth : Named A → Fault A
  IdleEllipsis : Fault A
  NoRule : Named A → Fault A
  EllipsisLength : Fault A
  BadForm : Fault A
  DuplicateBinder : Named A → Fault A
  BadPlace : Fault A
  BadRecord : Fault A
  BadQuasi : Fault A
  KeywordRedefined : Named A → Fault A
  Duplicate : Named A → Fault A
  KeywordAsValue : Named A → Fault A
  UseBudget : Fault A
  NodeBudget : Fault A
  DepthBudget : Fault A
  SyntaxError : (text : List ℕ) → Fault A
  IncludeRefused : Fault A
  -- the recursion of a definition is at its end; no law speaks of it but that enough turns don't come to it
  OutOfTurns : Fault A

abbrev pub fault_map : {A B : Type 0} → (A → B) → Fault A → Fault B
fault_map f BadRules = BadRules
fault_map f TwoEllipses = TwoEllipses
fault_map f (DuplicateVariable n) = DuplicateVariable (named_map f n)
fault_map f (EllipsisDepth n) = EllipsisDepth (named_map f n)
fault_map f IdleEllipsis = IdleEllipsis
fault_map f (NoRule n) = NoRule (named_map f n)
fault_map f EllipsisLength = EllipsisLength
fault_map f BadForm = BadForm
fault_map f (DuplicateBinder n) = DuplicateBinder (named_map f n)
fault_map f BadPlace = BadPlace
fault_map f BadRecord = BadRecord
fault_map f BadQuasi = BadQuasi
fault_map f (KeywordRedefined n) = KeywordRedefined (named_map f n)
fault_map f (Duplicate n) = Duplicate (named_map f n)
fault_map f (KeywordAsValue n) = KeywordAsValue (named_map f n)
fault_map f UseBudget = UseBudget
fault_map f NodeBudget = NodeBudget
fault_map f DepthBudget = DepthBudget
fault_map f (SyntaxError text) = SyntaxError text
fault_map f IncludeRefused = IncludeRefused
fault_map f OutOfTurns = OutOfTurns

-- the first fault, or what comes of the value
infixl 10 ◌>>◌
abbrev pub ◌>>◌ : {A B C : Type 0} → Result B (Fault A) → (B → Result C (Fault A)) → Result C (Fault A)
(Ok b) >> f = f b
(Err e) >> f = Err e

-- the number that a fault is told by
abbrev pub fault_code : {A : Type 0} → Fault A → ℕ
fault_code BadRules = 21
fault_code TwoEllipses = 22
fault_code (DuplicateVariable n) = 23
fault_code (EllipsisDepth n) = 24
fault_code IdleEllipsis = 25
fault_code (NoRule n) = 26
fault_code EllipsisLength = 27
fault_code BadForm = 31
fault_code (DuplicateBinder n) = 32
fault_code BadPlace = 33
fault_code BadRecord = 34
fault_code BadQuasi = 35
fault_code (KeywordRedefined n) = 41
fault_code (Duplicate n) = 42
fault_code (KeywordAsValue n) = 43
fault_code UseBudget = 44
fault_code NodeBudget = 45
fault_code DepthBudget = 46
fault_code (SyntaxError text) = 47
fault_code IncludeRefused = 48
fault_code OutOfTurns = 0

-- the identifier that a fault names
abbrev pub fault_name : {A : Type 0} → Fault A → Option (Named A)
fault_name BadRules = None
fault_name TwoEllipses = None
fault_name (DuplicateVariable n) = Some n
fault_name (EllipsisDepth n) = Some n
fault_name IdleEllipsis = None
fault_name (NoRule n) = Some n
fault_name EllipsisLength = None
fault_name BadForm = None
fault_name (DuplicateBinder n) = Some n
fault_name BadPlace = None
fault_name BadRecord = None
fault_name BadQuasi = None
fault_name (KeywordRedefined n) = Some n
fault_name (Duplicate n) = Some n
fault_name (KeywordAsValue n) = Some n
fault_name UseBudget = None
fault_name NodeBudget = None
fault_name DepthBudget = None
fault_name (SyntaxError text) = None
fault_name IncludeRefused = None
fault_name OutOfTurns = None

-- the text of a `syntax-error`
abbrev pub error_text : {A : Type 0} → Fault A → Option (List ℕ)
error_text BadRules = None
error_text TwoEllipses = None
error_text (DuplicateVariable n) = None
error_text (EllipsisDepth n) = None
error_text IdleEllipsis = None
error_text (NoRule n) = None
error_text EllipsisLength = None
error_text BadForm = None
error_text (DuplicateBinder n) = None
error_text BadPlace = None
error_text BadRecord = None
error_text BadQuasi = None
error_text (KeywordRedefined n) = None
error_text (Duplicate n) = None
error_text (KeywordAsValue n) = None
error_text UseBudget = None
error_text NodeBudget = None
error_text DepthBudget = None
error_text (SyntaxError text) = Some text
error_text IncludeRefused = None
error_text OutOfTurns = None
