-- What `feed` owes.
use Rattle.std.proofs.Common.{◌≡◌, ℕ, ◌+◌, ◌<◌, List, [], ◌++◌, refl, sym, ap, ◌∙◌, length, subst, append-nil, take, get_or, Option, Some, None, Result, Ok, Err, Vec}
use Rattle.std.specs.Option.{IsSomeAnd}
use Rattle.std.specs.Global.{Global}
use Rattle.std.proofs.lemmas.List.{length-append}
use Rattle.ls_base.specs.Frames.{Frame, bodies_of, Fault, End, rest, fault, fault_number, IsFrames}
use Rattle.lsp_framing.specs.Machine.{kind_of}
use Rattle.lsp_framing.specs.Standing.{kept_bytes}
use Rattle.lsp_framing.specs.Taken.{contents, Goes, Breaks}
use Rattle.lsp_framing.specs.Deframed.{Deframed, After, end_of}
use Rattle.lsp_framing.specs.Feeds.{fault_again, IfGiven, Feeds, EndsAs, Answers}
use Rattle.lsp_framing.specs.declared.header.Wrong.{Wrong}
use Rattle.lsp_framing.specs.declared.partial.Partial.{Partial}
use Rattle.lsp_framing.specs.declared.deframer.Halt.{Halt}
use Rattle.lsp_framing.specs.declared.deframer.Halt.TheVariants as halt
use Rattle.lsp_framing.specs.declared.deframer.FrameFault.{FrameFault}
use Rattle.lsp_framing.specs.declared.deframer.FrameFault.TheVariants as frame_fault
use Rattle.lsp_framing.proofs.Feeding.{taken_law, wrong_law, fault_stays}
use Rattle.lsp_framing.proofs.OneReading.{one_reading}

pub none_is : (h : Option Halt) → ((x : Halt) → h ≡ Some x → ⊥) → h ≡ None
none_is None away = refl
none_is (Some x) away = absurd (away x refl)

counted : (past piece : List ℕ) (n : ℕ) → length past ≡ n → length (past ++ piece) ≡ n + length piece
counted past piece n e = length-append past piece ∙ ap (λ (q : ℕ). q + length piece) e

-- a piece was taken
pub fed_taken : (past piece : List ℕ) (bodies given : List (List ℕ)) (h : Option Halt) (old new : Partial) (n : ℕ) (gs : List Frame) → After past bodies (record { end = end_of h (kept_bytes old); taken = n }) → h ≡ None
    → Goes old piece gs new → given ≡ bodies_of gs → After (past ++ piece) (bodies ++ given) (record { end = end_of h (kept_bytes new); taken = n + length piece })
fed_taken past piece bodies given h old new n gs a none g k =
    let x = subst (λ (q : Option Halt). IsSomeAnd (end_of q (kept_bytes old)) (IsFrames past bodies)) none a.frames in
    let y = subst (λ (q : List (List ℕ)). IsFrames (past ++ piece) (bodies ++ q) (rest (kept_bytes new))) (sym k) (taken_law past piece bodies gs old new x g) in
    record {
      frames = subst (λ (q : Option Halt). IsSomeAnd (end_of q (kept_bytes new)) (IsFrames (past ++ piece) (bodies ++ given))) (sym none) y;
      count = counted past piece n a.count;
    }

-- a byte of a piece is wrong
pub fed_wrong : (past piece : List ℕ) (bodies given : List (List ℕ)) (h : Option Halt) (old : Partial) (n at : ℕ) (w : Wrong) (gs : List Frame) → After past bodies (record { end = end_of h (kept_bytes old); taken = n }) → h ≡ None
    → at < length piece → Breaks old (take at piece) gs (get_or piece at 0) w → given ≡ bodies_of gs → After (past ++ piece) (bodies ++ given) (record { end = Some (fault (kind_of w) (n + at)); taken = n + length piece })
fed_wrong past piece bodies given h old n at w gs a none l g k =
    let x = subst (λ (q : Option Halt). IsSomeAnd (end_of q (kept_bytes old)) (IsFrames past bodies)) none a.frames in
    let y = subst (λ (q : List (List ℕ)). IsFrames (past ++ piece) (bodies ++ q) (fault (kind_of w) (length past + at))) (sym k) (wrong_law past piece bodies at w gs old x l g) in
    record {
      frames = subst (λ (q : ℕ). IsFrames (past ++ piece) (bodies ++ given) (fault (kind_of w) (q + at))) a.count y;
      count = counted past piece n a.count;
    }

-- a fault came before
pub fed_again : (past piece : List ℕ) (bodies given : List (List ℕ)) (h : Option Halt) (kept : List ℕ) (n at : ℕ) (w : Wrong) → After past bodies (record { end = end_of h kept; taken = n }) → h ≡ Some (halt.Fault w at)
    → given ≡ [] → After (past ++ piece) (bodies ++ given) (record { end = end_of h kept; taken = n + length piece })
fed_again past piece bodies given h kept n at w a is none =
    let x = subst (λ (q : Option Halt). IsSomeAnd (end_of q kept) (IsFrames past bodies)) is a.frames in
    let y = subst (λ (q : List (List ℕ)). IsFrames (past ++ piece) q (fault (kind_of w) at)) (sym (ap (λ (q : List (List ℕ)). bodies ++ q) none ∙ append-nil bodies)) (fault_stays past piece bodies (kind_of w) at x) in
    record {
      frames = subst (λ (q : Option Halt). IsSomeAnd (end_of q kept) (IsFrames (past ++ piece) (bodies ++ given))) (sym is) y;
      count = counted past piece n a.count;
    }

-- after a halt the fault comes again
pub again_reading : (x : Halt) (h : Option Halt) (kept : List ℕ) (n : ℕ) (old : Deframed) (piece : List ℕ) (f : FrameFault) → h ≡ Some x → record { end = end_of h kept; taken = n } ≡ old → f ≡ fault_again x
    → IfGiven (Err f) (λ given. Feeds old piece given (record { end = end_of h kept; taken = n + length piece }))
again_reading halt.Memory h kept n old piece f is view e =
    subst (λ (q : FrameFault). IfGiven (Err q) (λ given. Feeds old piece given (record { end = end_of h kept; taken = n + length piece }))) (sym e) tt
again_reading (halt.Fault w at) h kept n old piece f is view e =
    subst (λ (q : FrameFault). IfGiven (Err q) (λ given. Feeds old piece given (record { end = end_of h kept; taken = n + length piece }))) (sym e)
    (λ past bodies a. fed_again past piece bodies [] h kept n at w (subst (After past bodies) (sym view) a) is refl)

pub again_end : (x : Halt) (h : Option Halt) (kept : List ℕ) (f : FrameFault) → h ≡ Some x → f ≡ fault_again x → EndsAs (Err f) (end_of h kept)
again_end halt.Memory h kept f is e = subst (λ (q : FrameFault). EndsAs (Err q) (end_of h kept)) (sym e) (ap (λ (q : Option Halt). end_of q kept) is)
again_end (halt.Fault w at) h kept f is e = subst (λ (q : FrameFault). EndsAs (Err q) (end_of h kept)) (sym e) (kind_of w, ap (λ (q : Option Halt). end_of q kept) is, refl)

pub again_fault : (x : Halt) (h : Option Halt) (kept : List ℕ) (n : ℕ) (old : Deframed) (f : FrameFault) → h ≡ Some x → record { end = end_of h kept; taken = n } ≡ old → f ≡ fault_again x
    → (kind : Fault) (at : ℕ) → old.end ≡ Some (fault kind at) → (let r : Result (List (Vec ℕ Global)) FrameFault = Err f in r) ≡ Err (frame_fault.At (fault_number kind) at [])
again_fault halt.Memory h kept n old f is view e kind at o =
    let none : end_of h kept ≡ None = ap (λ (q : Option Halt). end_of q kept) is in
    let some : end_of h kept ≡ Some (fault kind at) = ap (λ (d : Deframed). d.end) view ∙ o in
    let no : (let q : Option End = None in q) ≡ Some (fault kind at) = sym none ∙ some in cc
again_fault (halt.Fault w to) h kept n old f is view e kind at o =
    let same : (let q : Option End = Some (fault (kind_of w) to) in q) ≡ Some (fault kind at) =
    sym (ap (λ (q : Option Halt). end_of q kept) is) ∙ ap (λ (d : Deframed). d.end) view ∙ o in
    let kinds : kind_of w ≡ kind = cc in
    let places : to ≡ at = cc in
    ap (λ (q : FrameFault). Err q) (e ∙ ap (λ (q : ℕ). frame_fault.At q to []) (ap fault_number kinds) ∙ ap (λ (q : ℕ). frame_fault.At (fault_number kind) q []) places)

pub again_memory : (x : Halt) (h : Option Halt) (kept : List ℕ) (n : ℕ) (old : Deframed) (f : FrameFault) → h ≡ Some x → record { end = end_of h kept; taken = n } ≡ old → f ≡ fault_again x
    → old.end ≡ None → (let r : Result (List (Vec ℕ Global)) FrameFault = Err f in r) ≡ Err frame_fault.Memory
again_memory halt.Memory h kept n old f is view e o = ap (λ (q : FrameFault). Err q) e
again_memory (halt.Fault w to) h kept n old f is view e o =
    let no : (let q : Option End = Some (fault (kind_of w) to) in q) ≡ None =
    sym (ap (λ (q : Option Halt). end_of q kept) is) ∙ ap (λ (d : Deframed). d.end) view ∙ o in cc

rest_answers : (items : List (Vec ℕ Global)) (bytes : List ℕ) (before all : List (List ℕ)) (end : End) (kept : List ℕ) → IsFrames bytes (before ++ contents items) (rest kept) → IsFrames bytes all end → Answers (Ok items) before all end
rest_answers items bytes before all (rest k) kept x y = sym (one_reading bytes (before ++ contents items) all (rest kept) (rest k) x y).0
rest_answers items bytes before all (fault kind at) kept x y = let e = (one_reading bytes (before ++ contents items) all (rest kept) (fault kind at) x y).1 in cc

fault_answers : (number offset : ℕ) (done : List (Vec ℕ Global)) (bytes : List ℕ) (before all : List (List ℕ)) (end : End) (kind : Fault) → IsFrames bytes (before ++ contents done) (fault kind offset) → number ≡ fault_number kind → IsFrames bytes all end
    → Answers (Err (frame_fault.At number offset done)) before all end
fault_answers number offset done bytes before all (rest k) kind x e y = let r = (one_reading bytes (before ++ contents done) all (fault kind offset) (rest k) x y).1 in cc
fault_answers number offset done bytes before all (fault j at) kind x e y =
    let r = one_reading bytes (before ++ contents done) all (fault kind offset) (fault j at) x y in
    let kinds : kind ≡ j = let s = r.1 in cc in
    let places : offset ≡ at = let s = r.1 in cc in
    (e ∙ ap fault_number kinds, places, sym r.0)

-- each answer is the one that the reading demands
pub exact : (result : Result (List (Vec ℕ Global)) FrameFault) (old new : Deframed) (piece : List ℕ) → IfGiven result (λ given. Feeds old piece given new) → EndsAs result new.end
    → (past : List ℕ) (before all : List (List ℕ)) (end : End) → After past before old → IsFrames (past ++ piece) all end → Answers result before all end
exact (Ok items) old new piece r e past before all end a y =
    rest_answers items (past ++ piece) before all end e.0 (subst (λ (q : Option End). IsSomeAnd q (IsFrames (past ++ piece) (before ++ contents items))) e.1 (r past before a).frames) y
exact (Err frame_fault.Memory) old new piece r e past before all end a y = tt
exact (Err (frame_fault.At number offset done)) old new piece r e past before all end a y =
    fault_answers number offset done (past ++ piece) before all end e.0 (subst (λ (q : Option End). IsSomeAnd q (IsFrames (past ++ piece) (before ++ contents done))) e.1 (r past before a).frames) e.2 y
