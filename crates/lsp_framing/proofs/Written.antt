-- A frame that is written is one, and is read again.
use Rattle.std.proofs.Common.{◌≡◌, ℕ, ◌/◌, ◌%◌, ◌+◌, ◌^◌, ◌<◌, ◌≤◌, List, [], ◌∷◌, ◌++◌, refl, sym, ap, ◌∙◌, arith, length, Bool, true, ◌&&◌, Some, codes, append_assoc}
use Rattle.std.specs.List.{list_all, flat_map, AllByRecursion}
use Rattle.std.specs.Char.{is_ascii_digit}
use Rattle.std.specs.Fmt.{decimal}
use Rattle.std.proofs.lemmas.Fmt.{decimal_by_steps, length-decimal-le}
use Rattle.std.proofs.lemmas.List.{length-append}
use Rattle.std.proofs.lemmas.Bool.Decides.{nat_tests}
use Rattle.ls_base.specs.Frames.{with_digit, number, sized, IsHeader, Frame, IsFrame, IsFrameOf, stream, bodies_of, max_header, max_body, frame_text, IsFrames, rest}
use Rattle.lsp_framing.proofs.ReadSoFar.{all_more, number_more}
use Rattle.lsp_framing.proofs.Streams.{rest_law, no_frame, good_start}

digit_byte : (d : ℕ) → d < 10 → is_ascii_digit (48 + d) ≡ true
digit_byte d h = grind (arith, nat_tests)

abbrev Writes : ℕ → List ℕ → Type 0
Writes n ds = (list_all is_ascii_digit ds ≡ true) × (number ds ≡ n) × (0 < length ds)

one : (n : ℕ) → n < 10 → Writes n ((48 + n) ∷ [])
one n h = (ap (λ (b : Bool). b && true) (digit_byte n h), omega arith, omega arith)

more : (n : ℕ) (ds : List ℕ) → 10 ≤ n → Writes (n / 10) ds → Writes n (ds ++ ((48 + n % 10) ∷ []))
more n ds h w = (
  all_more is_ascii_digit ds (48 + n % 10) w.0 (digit_byte (n % 10) (omega arith)),
  number_more ds (48 + n % 10) ∙ ap (λ (q : ℕ). with_digit q (48 + n % 10)) w.1 ∙ omega arith,
  omega (arith, length-append ds ((48 + n % 10) ∷ [])),
)

writes : (n : ℕ) → n < 2 ^ 64 → Writes n (decimal n)
writes n h = decimal_by_steps Writes one more n h

-- what is written before a body
abbrev pub head_text : ℕ → List ℕ
head_text n = codes "Content-Length: " ++ (decimal n ++ (13 ∷ 10 ∷ 13 ∷ 10 ∷ []))

head_is : (n : ℕ) → n ≤ max_body → IsHeader (head_text n) n × (length (head_text n) ≤ max_header)
head_is n h =
    let w = writes n (omega arith) in
    let short : length (decimal n) ≤ 20 = length-decimal-le 20 n (omega arith) (omega arith) (omega arith) in (
      (
        sized (codes "Content-Length") (32 ∷ []) (decimal n) [] ∷ [],
        ((((omega arith, refl), refl), refl, w.2, w.0, refl, omega arith), refl, ap Some (sym w.1)),
        refl,
      ),
      omega (arith, length-append (decimal n) (13 ∷ 10 ∷ 13 ∷ 10 ∷ [])),
    )

-- the frame of a body
abbrev frame_of : List ℕ → Frame
frame_of body = record { header = head_text (length body); body = body }

-- what is written is put together so
pub put_together : (body bytes : List ℕ) → bytes ≡ head_text (length body) → bytes ++ body ≡ frame_text body
put_together body bytes e = ap (λ (q : List ℕ). q ++ body) e ∙ simp append_assoc

text_is : (body after : List ℕ) → frame_text body ++ after ≡ head_text (length body) ++ (body ++ after)
text_is body after = simp append_assoc

-- the written frame is a frame
pub written_frame : (body : List ℕ) → length body ≤ max_body → IsFrameOf (frame_text body) body
written_frame body h = (head_text (length body), head_is (length body) h, simp append_assoc)

abbrev frames_of : List (List ℕ) → List Frame
frames_of [] = []
frames_of (body ∷ bodies) = frame_of body ∷ frames_of bodies

each_is : (bodies : List (List ℕ)) → AllByRecursion (λ body. length body ≤ max_body) bodies → AllByRecursion IsFrame (frames_of bodies)
each_is [] h = tt
each_is (body ∷ bodies) h = (head_is (length body) h.0, each_is bodies h.1)

stream_is : (bodies : List (List ℕ)) → flat_map frame_text bodies ≡ stream (frames_of bodies) []
stream_is [] = refl
stream_is (body ∷ bodies) = text_is body (flat_map frame_text bodies) ∙ ap (λ (q : List ℕ). head_text (length body) ++ (body ++ q)) (stream_is bodies)

bodies_are : (bodies : List (List ℕ)) → bodies_of (frames_of bodies) ≡ bodies
bodies_are [] = refl
bodies_are (body ∷ bodies) = ap (λ (q : List (List ℕ)). body ∷ q) (bodies_are bodies)

-- written frames are read again
pub written_again : (bodies : List (List ℕ)) → AllByRecursion (λ body. length body ≤ max_body) bodies → IsFrames (flat_map frame_text bodies) bodies (rest [])
written_again bodies h =
    let x = rest_law (flat_map frame_text bodies) (frames_of bodies) [] (each_is bodies h) (stream_is bodies) no_frame good_start in
    (x.0, sym (bodies_are bodies) ∙ x.1, x.2, x.3)
