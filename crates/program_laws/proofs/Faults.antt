-- Faults other than the end of the turns, and what tells such faults alone.
use Rattle.std.proofs.Common.{◌≡◌, Bool, true, false, Result, Ok, Err, subst, arith, if◌then◌else◌}
use Rattle.scheme_model.specs.ExpansionFaults.{Fault, fault_map, fault_code, BadRules, TwoEllipses, DuplicateVariable, EllipsisDepth, IdleEllipsis, NoRule, EllipsisLength, BadForm, DuplicateBinder, BadPlace, BadRecord, BadQuasi, KeywordRedefined, Duplicate, KeywordAsValue, UseBudget, NodeBudget, DepthBudget, SyntaxError, IncludeRefused, OutOfTurns, ◌>>◌}

-- a fault that comes within the turns
abbrev pub InTurns : {A : Type 0} → Fault A → Type 0
InTurns BadRules = Unit {0}
InTurns TwoEllipses = Unit {0}
InTurns (DuplicateVariable n) = Unit {0}
InTurns (EllipsisDepth n) = Unit {0}
InTurns IdleEllipsis = Unit {0}
InTurns (NoRule n) = Unit {0}
InTurns EllipsisLength = Unit {0}
InTurns BadForm = Unit {0}
InTurns (DuplicateBinder n) = Unit {0}
InTurns BadPlace = Unit {0}
InTurns BadRecord = Unit {0}
InTurns BadQuasi = Unit {0}
InTurns (KeywordRedefined n) = Unit {0}
InTurns (Duplicate n) = Unit {0}
InTurns (KeywordAsValue n) = Unit {0}
InTurns UseBudget = Unit {0}
InTurns NodeBudget = Unit {0}
InTurns DepthBudget = Unit {0}
InTurns (SyntaxError text) = Unit {0}
InTurns IncludeRefused = Unit {0}
InTurns OutOfTurns = ⊥

pub in_turns_map : {A B : Type 0} (f : A → B) (e : Fault A) → InTurns e → InTurns (fault_map f e)
in_turns_map f BadRules h = tt
in_turns_map f TwoEllipses h = tt
in_turns_map f (DuplicateVariable n) h = tt
in_turns_map f (EllipsisDepth n) h = tt
in_turns_map f IdleEllipsis h = tt
in_turns_map f (NoRule n) h = tt
in_turns_map f EllipsisLength h = tt
in_turns_map f BadForm h = tt
in_turns_map f (DuplicateBinder n) h = tt
in_turns_map f BadPlace h = tt
in_turns_map f BadRecord h = tt
in_turns_map f BadQuasi h = tt
in_turns_map f (KeywordRedefined n) h = tt
in_turns_map f (Duplicate n) h = tt
in_turns_map f (KeywordAsValue n) h = tt
in_turns_map f UseBudget h = tt
in_turns_map f NodeBudget h = tt
in_turns_map f DepthBudget h = tt
in_turns_map f (SyntaxError text) h = tt
in_turns_map f IncludeRefused h = tt
in_turns_map f OutOfTurns h = h

pub coded : {A : Type 0} (e : Fault A) → InTurns e → fault_code e ≡ 0 → ⊥
coded BadRules h e = omega arith
coded TwoEllipses h e = omega arith
coded (DuplicateVariable n) h e = omega arith
coded (EllipsisDepth n) h e = omega arith
coded IdleEllipsis h e = omega arith
coded (NoRule n) h e = omega arith
coded EllipsisLength h e = omega arith
coded BadForm h e = omega arith
coded (DuplicateBinder n) h e = omega arith
coded BadPlace h e = omega arith
coded BadRecord h e = omega arith
coded BadQuasi h e = omega arith
coded (KeywordRedefined n) h e = omega arith
coded (Duplicate n) h e = omega arith
coded (KeywordAsValue n) h e = omega arith
coded UseBudget h e = omega arith
coded NodeBudget h e = omega arith
coded DepthBudget h e = omega arith
coded (SyntaxError text) h e = omega arith
coded IncludeRefused h e = omega arith
coded OutOfTurns h e = h

pub not_out : {A : Type 0} (e : Fault A) → InTurns e → e ≡ OutOfTurns → ⊥
not_out e h same = subst InTurns same h

-- ---- results

-- a value of which this holds, or a fault within the turns
abbrev pub Gives : {A V : Type 0} → (V → Type 0) → Result V (Fault A) → Type 0
Gives P (Ok v) = P v
Gives P (Err e) = InTurns e

-- any value
abbrev pub Any : {V : Type 0} → V → Type 0
Any v = Unit {0}

pub then_gives : {A V W : Type 0} (P : V → Type 0) (Q : W → Type 0) (r : Result V (Fault A)) (f : V → Result W (Fault A)) → Gives P r → ((v : V) → P v → Gives Q (f v)) → Gives Q (r >> f)
then_gives P Q (Ok v) f h g = g v h
then_gives P Q (Err e) f h g = h

pub either_gives : {A V : Type 0} (P : V → Type 0) (b : Bool) (x y : Result V (Fault A)) → Gives P x → Gives P y → Gives P (if b then x else y)
either_gives P true x y h k = h
either_gives P false x y h k = k

pub weaker : {A V : Type 0} (P Q : V → Type 0) (r : Result V (Fault A)) → Gives P r → ((v : V) → P v → Q v) → Gives Q r
weaker P Q (Ok v) h g = g v h
weaker P Q (Err e) h g = h

pub any_given : {A V : Type 0} (P : V → Type 0) (r : Result V (Fault A)) → Gives P r → Gives Any r
any_given P (Ok v) h = tt
any_given P (Err e) h = h
