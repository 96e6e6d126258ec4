-- Texts that are appended one after another.
use Rattle.std.proofs.Common.{◌≡◌, ◌∙◌, sym, ap, refl, ℕ, zero, suc, ◌+◌, ◌<◌, ◌≤◌, ◌==◌, Bool, true, false, List, [], ◌∷◌, ◌++◌, length, take, map, filter, get_or, append_assoc, append-nil, arith, if◌then◌else◌}
use Rattle.std.specs.List.{join_with_byte}
use Rattle.std.proofs.lemmas.Bool.{ne_eqb}
use Rattle.std.proofs.lemmas.List.{map_more, take_more, length-map, length-take}
use Rattle.std.proofs.lemmas.Grind.{flat_map-append}
use Rattle.std.specs.Global.{Vec}
use Rattle.csv.specs.declared.writer.Writer.{Writer}
use Rattle.cad_files.specs.Texts.{Record, HasAppended, record_text, text_of}
use Rattle.cad_files.proofs.CallerLemmas.{join-some}
use Rattle.cad_views.specs.WellKnown.{separator}

comma : (i : ℕ) → separator (suc i) ≡ 44 ∷ []
comma i = let some : (suc i == 0) ≡ false = ne_eqb (suc i) 0 (λ same. absurd (omega arith)) in rw some refl

joined-next : {X : Type 0} (f : X → List ℕ) (xs : List X) (i : ℕ) (x : X) → i < length xs → x ≡ get_or xs i x
    → join_with_byte 44 (map f (take (i + 1) xs)) ≡ (join_with_byte 44 (map f (take i xs)) ++ separator i) ++ f x
joined-next f [] i x within is = absurd (omega arith)
joined-next f (y ∷ ys) zero x within is = ap f (sym is)
joined-next f (y ∷ ys) (suc i) x within is =
    let parts = map f (take (suc i) (y ∷ ys)) in
    let some : 0 < length parts = simp (length-map, length-take) (omega arith) in
    ap (join_with_byte 44) (map_more f (y ∷ ys) (suc i) x within) ∙ join-some 44 parts (f (get_or (y ∷ ys) (suc i) x)) some
    ∙ ap (λ (z : _). (join_with_byte 44 parts ++ 44 ∷ []) ++ f z) (sym is) ∙ ap (λ (s : List ℕ). (join_with_byte 44 parts ++ s) ++ f x) (sym (comma i))

-- one part more, after what stands before it
pub joined-step : {X : Type 0} (f : X → List ℕ) (xs : List X) (i : ℕ) (x : X) (text t1 t2 t3 : List ℕ) → i < length xs → x ≡ get_or xs i x
    → t1 ≡ text ++ join_with_byte 44 (map f (take i xs)) → t2 ≡ t1 ++ separator i → t3 ≡ t2 ++ f x → t3 ≡ text ++ join_with_byte 44 (map f (take (i + 1) xs))
joined-step f xs i x text t1 t2 t3 within is e1 e2 e3 =
    let J = join_with_byte 44 (map f (take i xs)) in
    e3 ∙ ap (λ (l : List ℕ). l ++ f x) (e2 ∙ ap (λ (l : List ℕ). l ++ separator i) e1 ∙ append_assoc text J (separator i))
    ∙ append_assoc text (J ++ separator i) (f x) ∙ ap (λ (l : List ℕ). text ++ l) (sym (joined-next f xs i x within is))

-- one element more of those that pass
pub filter-more : {X : Type 0} (p : X → Bool) (xs : List X) (i : ℕ) (d : X) → i < length xs
    → filter p (take (i + 1) xs) ≡ filter p (take i xs) ++ (if p (get_or xs i d) then get_or xs i d ∷ [] else [])
filter-more {X} p xs i d within = ap (filter p) (take_more xs i d within) ∙ last (take i xs)
  where
    one : (t : Bool) → (if t then get_or xs i d ∷ [] else []) ≡ [] ++ (if t then get_or xs i d ∷ [] else [])
    one true = refl
    one false = refl

    more : (t : Bool) (y : X) (ys zs : List X) → zs ≡ ys ++ (if p (get_or xs i d) then get_or xs i d ∷ [] else []) → (if t then y ∷ zs else zs) ≡ (if t then y ∷ ys else ys) ++ (if p (get_or xs i d) then get_or xs i d ∷ [] else [])
    more true y ys zs is = ap (λ (l : List X). y ∷ l) is
    more false y ys zs is = is

    last : (ys : List X) → filter p (ys ++ get_or xs i d ∷ []) ≡ filter p ys ++ (if p (get_or xs i d) then get_or xs i d ∷ [] else [])
    last [] = one (p (get_or xs i d))
    last (y ∷ ys) = more (p y) y (filter p ys) (filter p (ys ++ get_or xs i d ∷ [])) (last ys)

pub filter-more-at : {X : Type 0} (p : X → Bool) (xs : List X) (i : ℕ) (x : X) → i < length xs → x ≡ get_or xs i x
    → filter p (take (i + 1) xs) ≡ filter p (take i xs) ++ (if p x then x ∷ [] else [])
filter-more-at p xs i x within is = filter-more p xs i x within ∙ ap (λ (y : _). filter p (take i xs) ++ (if p y then y ∷ [] else [])) (sym is)

-- what is appended after what was
pub appended-both : (first more : List ℕ) {old mid new : Writer (Vec ℕ)} → HasAppended first old mid → HasAppended more mid new → HasAppended (first ++ more) old new
appended-both first more a b = λ text w. rw (← append_assoc text first more) (b (text ++ first) (a text w))

pub appended-record : (records : List Record) (r : Record) {old mid new : Writer (Vec ℕ)} → HasAppended (text_of records) old mid → HasAppended (record_text r) mid new → HasAppended (text_of (records ++ r ∷ [])) old new
appended-record records r a b =
    let all : text_of (records ++ r ∷ []) ≡ text_of records ++ record_text r = flat_map-append record_text records (r ∷ []) ∙ ap (λ (l : List ℕ). text_of records ++ l) (append-nil (record_text r)) in
    rw all (appended-both (text_of records) (record_text r) a b)

pub appended-map : {X : Type 0} (f : X → Record) (xs : List X) (i : ℕ) (x : X) {old mid new : Writer (Vec ℕ)} → i < length xs → x ≡ get_or xs i x
    → HasAppended (text_of (map f (take i xs))) old mid → HasAppended (record_text (f x)) mid new → HasAppended (text_of (map f (take (i + 1) xs))) old new
appended-map f xs i x within is a b =
    let next = map_more f xs i x within ∙ ap (λ (z : _). map f (take i xs) ++ f z ∷ []) (sym is) in
    rw next (appended-record (map f (take i xs)) (f x) a b)

-- the first point of some
pub first-is : (points : List ℕ) (p : ℕ) → 2 ≤ length points → p ≡ get_or points 0 p → p ∷ [] ≡ take 1 points
first-is [] p some is = absurd (omega arith)
first-is (q ∷ points) p some is = ap (λ (r : ℕ). r ∷ []) is

-- an element of a list, read twice
pub same-at : {X : Type 0} (xs : List X) (i : ℕ) (a b : X) → i < length xs → a ≡ get_or xs i a → b ≡ get_or xs i b → a ≡ b
same-at [] i a b within here there = absurd (omega arith)
same-at (x ∷ xs) zero a b within here there = here ∙ sym there
same-at (x ∷ xs) (suc i) a b within here there = same-at xs i a b (omega arith) here there
