-- Records and fields that are written one after another.
use Rattle.std.proofs.Common.{◌≡◌, ◌∙◌, sym, ap, refl, ℕ, ◌+◌, ◌<◌, ◌≤◌, List, [], ◌∷◌, ◌++◌, map, take, length, get_or, Some, slice_get, append_assoc, append-nil, arith, decimal}
use Rattle.std.specs.List.{join_with_byte}
use Rattle.std.proofs.lemmas.List.{map_more, take_more, length-map, length-take}
use Rattle.std.proofs.lemmas.Option.{get_or_from_slice_get, slice_get-get_or, slice_get-map}
use Rattle.std.proofs.lemmas.Grind.{flat_map-append}
use Rattle.std.specs.Prelude.{IfSome, option_map}
use Rattle.std.specs.Global.{Vec}
use Rattle.csv.specs.declared.writer.Writer.{Writer}
use Rattle.cad_files.specs.Texts.{Record, HasAppended, text_of, record_text, list_field}

-- one record more
pub text_of-more : {X : Type 0} (f : X → Record) (es : List X) (i : ℕ) (e : X) (text : List ℕ) → i < length es → slice_get es i ≡ Some e
    → text ++ text_of (map f (take (i + 1) es)) ≡ (text ++ text_of (map f (take i es))) ++ record_text (f e)
text_of-more f es i e text h at =
    ap (λ (l : List Record). text ++ text_of l) (map_more f es i e h)
    ∙ ap (λ (l : List ℕ). text ++ l) (flat_map-append record_text (map f (take i es)) _ ∙ ap (λ (l : List ℕ). text_of (map f (take i es)) ++ l) (append-nil _ ∙ ap (λ x. record_text (f x)) (get_or_from_slice_get es i e e at)))
    ∙ sym (append_assoc text (text_of (map f (take i es))) (record_text (f e)))

-- the record at this place after those before it
pub appended-next : (records : List Record) (i : ℕ) {old mid new : Writer (Vec ℕ)} → i < length records
    → HasAppended (text_of (take i records)) old mid → IfSome (slice_get records i) (λ r. HasAppended (record_text r) mid new)
    → HasAppended (text_of (take (i + 1) records)) old new
appended-next records i h before one =
    let next = get_or records i [] in
    let step = rw (slice_get-get_or records i [] h) at one in
    λ text w. rw (
      take_more records i [] h,
      flat_map-append record_text (take i records) (next ∷ []),
      append-nil (record_text next),
      ← append_assoc text (text_of (take i records)) (record_text next),
    ) (step _ (before text w))

-- what a row at a place becomes stands there
pub made_at : {X Y : Type 0} (f : X → Y) (xs : List X) (place : ℕ) (x : X) → Some x ≡ slice_get xs place → slice_get (map f xs) place ≡ Some (f x)
made_at f xs place x at = slice_get-map f xs place ∙ ap (option_map f) (sym at)

-- a first and a last record round five lists
pub text_of-between : (first last : Record) (a b c d e : List Record) → text_of (first ∷ (a ++ (b ++ (c ++ (d ++ (e ++ last ∷ [])))))) ≡ (((((([] ++ record_text first) ++ text_of a) ++ text_of b) ++ text_of c) ++ text_of d) ++ text_of e) ++ record_text last
text_of-between first last a b c d e = simp (flat_map-append, append_assoc, append-nil)

pub some_is : {X : Type 0} (x y : X) → Some x ≡ Some y → x ≡ y
some_is x y h = cc

-- ---- Lists of numbers

join-push : (c : ℕ) (p : List ℕ) (ps : List (List ℕ)) (x : List ℕ) → join_with_byte c ((p ∷ ps) ++ x ∷ []) ≡ (join_with_byte c (p ∷ ps) ++ c ∷ []) ++ x
join-push c p [] x = sym (append_assoc p (c ∷ []) x)
join-push c p (q ∷ ps) x =
    ap (λ (l : List ℕ). p ++ (c ∷ l)) (join-push c q ps x)
    ∙ sym (append_assoc (p ++ (c ∷ join_with_byte c (q ∷ ps))) (c ∷ []) x ∙ append_assoc p (c ∷ join_with_byte c (q ∷ ps)) (c ∷ x) ∙ ap (λ (l : List ℕ). p ++ (c ∷ l)) (sym (append_assoc (join_with_byte c (q ∷ ps)) (c ∷ []) x)))

pub join-some : (c : ℕ) (ps : List (List ℕ)) (x : List ℕ) → 0 < length ps → join_with_byte c (ps ++ x ∷ []) ≡ (join_with_byte c ps ++ c ∷ []) ++ x
join-some c [] x h = absurd (omega arith)
join-some c (p ∷ ps) x h = join-push c p ps x

pub list_field-none : list_field [] ≡ []
unfolding list_field
list_field-none = refl

pub list_field-first : (ns : List ℕ) (i x d : ℕ) → i ≤ 0 → i < length ns → x ≡ get_or ns i d → list_field (take i ns) ++ decimal x ≡ list_field (take (i + 1) ns)
unfolding list_field
list_field-first [] i x d none h is = absurd (omega arith)
list_field-first (n ∷ ns) i x d none h is = let zero : i ≡ 0 = omega arith in rw (is, zero) refl

pub list_field-more : (ns : List ℕ) (i x d : ℕ) → 0 < i → i < length ns → x ≡ get_or ns i d → (list_field (take i ns) ++ 32 ∷ []) ++ decimal x ≡ list_field (take (i + 1) ns)
unfolding list_field
list_field-more ns i x d some h is =
    let long : 0 < length (map decimal (take i ns)) = simp (length-map, length-take) (omega arith) in
    sym (ap (join_with_byte 32) (map_more decimal ns i d h) ∙ rw (← is) (join-some 32 (map decimal (take i ns)) (decimal x) long))

-- two lists and a last record
pub text_of-two : (last : Record) (a b : List Record) → text_of (a ++ (b ++ last ∷ [])) ≡ (([] ++ text_of a) ++ text_of b) ++ record_text last
text_of-two last a b = simp (flat_map-append, append_assoc, append-nil)

-- a list and a last record
pub text_of-one : (last : Record) (a : List Record) → text_of (a ++ last ∷ []) ≡ ([] ++ text_of a) ++ record_text last
text_of-one last a = simp (flat_map-append, append_assoc, append-nil)
