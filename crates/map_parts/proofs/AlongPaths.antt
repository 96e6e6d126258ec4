-- Paths of halves that lead along the sides of a chain, or of a ring.
use Rattle.std.proofs.Common.{◌≡◌, ◌⊎◌, ℕ, ◌≤◌, ◌||◌, Bool, true, false, List, [], ◌∷◌, ◌++◌, map, length, refl, sym, ap, ◌∙◌, subst, inl, inr, nat_eq, true≢false, arith}
use Rattle.std.proofs.lemmas.Bool.Decides.{Decides-eqb}
use Rattle.std.specs.List.{AllByRecursion, Contains, IsDistinct}
use Rattle.cad_rings.specs.Cycle.{Ring, Side, sides_along, sides_of, Corner, corner_back, corners_of}
use Rattle.cad_rings.specs.Surgery.{corner, sides_of_chain, corners_of_chain}
use Rattle.cad_map.proofs.CallerLemmas.{Contains-cases, Contains-first, Contains-later}
use Rattle.half_table.specs.declared.half.Half.{Half}
use Rattle.half_table.specs.Half.{twin, is_half}
use Rattle.half_table.specs.Cycle.{IsRun}
use Rattle.half_table.specs.Rows.{HalfRows, next, origin_of}
use Rattle.half_table.proofs.Halves.{is_half-turned, twin-twin}
use Rattle.half_paths.specs.Path.{strings_of, last_of, AreDifferent, AreElsewhere}
use Rattle.half_paths.specs.Loose.{is_of}
use Rattle.half_paths.specs.Strung.{IsStrung}
use Rattle.half_paths.specs.Round.{IsRound}
use Rattle.half_paths.proofs.Redirected.{neither}
use Rattle.half_paths.proofs.Apart.{other}
use Rattle.half_paths.proofs.Exchanged.{same-string}
use Rattle.cad_map.specs.Map.{Map}
use Rattle.cad_map.specs.Rings.{HasWholeRings}
use Rattle.cad_laws.specs.Local.{IsShown, IsLocal, side_by, beyond}
use Rattle.cad_laws.specs.Parting.{HasCorner}
use Rattle.cad_laws.proofs.CallerLemmas.{before-one}
use Rattle.std.proofs.lemmas.List.{map-append}
use Rattle.map_parts.proofs.CycleRings.{map-map}

-- ---- Halves on a path and elsewhere

-- a half on the string of one of these is that half or its twin
pub on-path : (path : List Half) (h : Half) → is_of (strings_of path) h ≡ true → Contains path h ⊎ Contains path (twin h)
on-path [] h is = absurd (true≢false (sym is))
on-path (k ∷ path) h is = by (nat_eq h.string k.string) refl (λ later. on-path path h later)
  where
    by : (b : Bool) → nat_eq h.string k.string ≡ b → (is_of (strings_of path) h ≡ true → Contains path h ⊎ Contains path (twin h)) → Contains (k ∷ path) h ⊎ Contains (k ∷ path) (twin h)
    by true e again = elim (same-string h k e) [
      | inl same ↦ inl (subst (Contains (k ∷ path)) (sym same) (Contains-first k path))
      | inr turned ↦ inr (subst (Contains (k ∷ path)) (sym (twin-twin k) ∙ ap twin (sym turned)) (Contains-first k path))
    ]
    by false e again = elim (again (ap (λ (b : Bool). b || is_of (strings_of path) h) (sym e) ∙ is)) [
      | inl on ↦ inl (Contains-later k path h on)
      | inr back ↦ inr (Contains-later k path (twin h) back)
    ]

pub is-on_path : (path : List Half) (h : Half) → Contains path h → is_of (strings_of path) h ≡ true
is-on_path [] h among = let low = among.1 in absurd (omega arith)
is-on_path (k ∷ path) h among = elim (Contains-cases k path h among) [
  | inl same ↦ ap (λ (b : Bool). b || is_of (strings_of path) h) ((Decides-eqb h.string k.string).1 (ap (λ (x : Half). x.string) (sym same)))
  | inr later ↦ ap (λ (b : Bool). nat_eq h.string k.string || b) (is-on_path path h later) ∙ either (nat_eq h.string k.string)
]
  where
    either : (b : Bool) → (b || true) ≡ true
    either true = refl
    either false = refl

pub elsewhere-of : (path : List Half) (h : Half) → is_of (strings_of path) h ≡ false → AreElsewhere h path
elsewhere-of [] h is = tt
elsewhere-of (k ∷ path) h is = let parts = neither (nat_eq h.string k.string) (is_of (strings_of path) h) is in (parts.0, elsewhere-of path h parts.1)

pub of-elsewhere : (path : List Half) (h : Half) → AreElsewhere h path → is_of (strings_of path) h ≡ false
of-elsewhere [] h away = refl
of-elsewhere (k ∷ path) h away = ap (λ (t : Bool). t || is_of (strings_of path) h) away.0 ∙ of-elsewhere path h away.1

-- ---- Halves of a path in turn

module _ (nx : Half → Half) where
  -- each half but the first comes after another, and leads back to it
  pub strung-before : (a : Half) (rest : List Half) → IsStrung nx a rest → (g : Half) → Contains rest g → (p : Half) × Contains (a ∷ rest) p × (nx p ≡ g) × (nx (twin g) ≡ twin p)
  strung-before a [] s g among = let low = among.1 in absurd (omega arith)
  strung-before a (b ∷ rest) s g among = elim (Contains-cases b rest g among) [
    | inl same ↦ (a, Contains-first a (b ∷ rest), s.0 ∙ same, ap (λ (x : Half). nx (twin x)) (sym same) ∙ s.1)
    | inr later ↦ let it = strung-before b rest s.2 g later in (it.0, Contains-later a (b ∷ rest) it.0 it.1, it.2, it.3)
  ]

  -- each half but the last leads on to another
  pub strung-after : (a : Half) (rest : List Half) → IsStrung nx a rest → (g : Half) → Contains (a ∷ rest) g → (g ≡ last_of a rest) ⊎ Contains rest (nx g)
  strung-after a [] s g among = elim (Contains-cases a [] g among) [
    | inl same ↦ inl (sym same)
    | inr none ↦ let low = none.1 in absurd (omega arith)
  ]
  strung-after a (b ∷ rest) s g among = elim (Contains-cases a (b ∷ rest) g among) [
    | inl same ↦ inr (subst (Contains (b ∷ rest)) (sym s.0 ∙ ap nx same) (Contains-first b rest))
    | inr later ↦ elim (strung-after b rest s.2 g later) [
      | inl last ↦ inl last
      | inr on ↦ inr (Contains-later b rest (nx g) on)
    ]
  ]

  pub last-there : (a : Half) (rest : List Half) → Contains (a ∷ rest) (last_of a rest)
  last-there a [] = Contains-first a []
  last-there a (b ∷ rest) = Contains-later a (b ∷ rest) (last_of b rest) (last-there b rest)

  module _ (a : Half) (rest : List Half) (round : IsRound nx a rest) where
    pub round-before : (g : Half) → Contains (a ∷ rest) g → (p : Half) × Contains (a ∷ rest) p × (nx p ≡ g) × (nx (twin g) ≡ twin p)
    round-before g among = elim (Contains-cases a rest g among) [
      | inl same ↦ (last_of a rest, last-there a rest, round.closes ∙ same, ap (λ (x : Half). nx (twin x)) (sym same) ∙ round.returns)
      | inr later ↦ strung-before a rest round.strung g later
    ]

    pub round-after : (g : Half) → Contains (a ∷ rest) g → Contains (a ∷ rest) (nx g)
    round-after g among = elim (strung-after a rest round.strung g among) [
      | inl last ↦ subst (Contains (a ∷ rest)) (sym (ap nx last ∙ round.closes)) (Contains-first a rest)
      | inr on ↦ Contains-later a rest (nx g) on
    ]

  -- a path that leads on to a half elsewhere is a run
  pub strung-run : (h a : Half) (rest : List Half) → AreElsewhere h rest → IsStrung nx a rest → nx (last_of a rest) ≡ h → IsRun nx h (nx a) rest
  strung-run h a [] e s closes = closes
  strung-run h a (b ∷ rest) e s closes = (
    s.0,
    subst (λ (x : Half). is_half x h ≡ false) (sym s.0) (is_half-turned h b (other h b e.0)),
    subst (λ (x : Half). IsRun nx h (nx x) rest) (sym s.0) (strung-run h b rest e.1 s.2 closes),
  )

-- of different strings the first is none of the others
pub first-elsewhere : (a : Half) (rest : List Half) → AreDifferent (a ∷ rest) → AreElsewhere a rest
unfolding IsDistinct
first-elsewhere a rest d = d.0

-- ---- The points along a path

abbrev from_of : List Side → ℕ
from_of [] = 0
from_of (s ∷ sides) = s.0

abbrev to_of : List Side → ℕ
to_of [] = 0
to_of (s ∷ sides) = s.1

abbrev rest_of : List Side → List Side
rest_of [] = []
rest_of (s ∷ sides) = sides

from-along : (b : ℕ) (points : List ℕ) (z : ℕ) → from_of (sides_along b points z) ≡ b
from-along b [] z = refl
from-along b (c ∷ points) z = refl

some-along : (b : ℕ) (points : List ℕ) (z : ℕ) → [] ≡ sides_along b points z → ⊥
some-along b [] z e = cc
some-along b (c ∷ points) z e = cc

-- the sides along points begin at these
pub starts-along : (a : ℕ) (points : List ℕ) (z : ℕ) → map (λ (s : Side). s.0) (sides_along a points z) ≡ a ∷ points
starts-along a [] z = refl
starts-along a (b ∷ points) z = ap (λ (l : List ℕ). a ∷ l) (starts-along b points z)

module _ (rows : HalfRows) where
  abbrev nx : Half → Half
  nx = next rows

  abbrev o : Half → ℕ
  o = origin_of rows

  -- where the last half of a path leads on to a half at its end, each half ends where its next begins
  pub along-meets : (h : Half) (hs : List Half) (a : ℕ) (points : List ℕ) (z : ℕ) → map (side_by rows) (h ∷ hs) ≡ sides_along a points z → IsStrung nx h hs
      → o (nx (last_of h hs)) ≡ z → (g : Half) → Contains (h ∷ hs) g → o (nx g) ≡ o (twin g)
  along-meets h [] a [] z e s closes g among = elim (Contains-cases h [] g among) [
    | inl same ↦ subst (λ (x : Half). o (nx x) ≡ o (twin x)) same (closes ∙ sym (ap to_of e))
    | inr none ↦ let low = none.1 in absurd (omega arith)
  ]
  along-meets h [] a (b ∷ points) z e s closes g among = absurd (some-along b points z (ap rest_of e))
  along-meets h (k ∷ hs) a [] z e s closes g among = let none : side_by rows k ∷ map (side_by rows) hs ≡ [] = ap rest_of e in cc
  along-meets h (k ∷ hs) a (b ∷ points) z e s closes g among = elim (Contains-cases h (k ∷ hs) g among) [
    | inl same ↦
        subst (λ (x : Half). o (nx x) ≡ o (twin x)) same
        (ap o s.0 ∙ ap from_of (ap rest_of e) ∙ from-along b points z ∙ sym (ap to_of e))
    | inr later ↦ along-meets k hs b points z (ap rest_of e) s.2 closes g later
  ]

  -- the points where the halves along a ring begin
  pub round-points : (path : List Half) (ring : Ring) → map (side_by rows) path ≡ sides_of ring → map o path ≡ ring
  round-points [] [] e = refl
  round-points (h ∷ path) [] e = cc
  round-points path (a ∷ points) e = sym (map-map (λ (s : Side). s.0) (side_by rows) path) ∙ ap (map (λ (s : Side). s.0)) e ∙ starts-along a points a

-- ---- Paths of a table that goes with a map

module _ (m : Map) (whole : HasWholeRings m) (rows : HalfRows) (local : IsLocal m rows) where
  -- two halves on the sides of a corner follow one another, there and back
  pub corner-strung : (h k : Half) → IsShown m h → IsShown m k → (x y z : ℕ) → side_by rows h ≡ (x, y) → side_by rows k ≡ (y, z) → HasCorner m (corner x y z) → HasCorner m (corner z y x)
      → (next rows h ≡ k) × (next rows (twin k) ≡ twin h)
  corner-strung h k shown also x y z from to there back = (
    leads h k shown also x y z from to there,
    leads (twin k) (twin h) also shown z y x (turned k y z to) (turned h x y from) back,
  )
    where
      turned : (g : Half) (u v : ℕ) → side_by rows g ≡ (u, v) → side_by rows (twin g) ≡ (v, u)
      turned g u v is = λ i. ((is i).1, (ap (origin_of rows) (twin-twin g) ∙ ap (λ (s : Side). s.0) is) i)

      leads : (f g : Half) → IsShown m f → IsShown m g → (u v w : ℕ) → side_by rows f ≡ (u, v) → side_by rows g ≡ (v, w) → HasCorner m (corner u v w) → next rows f ≡ g
      leads f g one two u v w before behind has =
          let own : Corner = corner (origin_of rows f) (origin_of rows (twin f)) (beyond rows f) in
          let same : own ≡ corner u v w = before-one m whole own (corner u v w) (local.corners f one) has before in
          let side : side_by rows (next rows f) ≡ (v, w) = λ i. ((local.meets f one ∙ ap (λ (s : Side). s.1) before) i, (same i).after) in
          local.apart (next rows f) g (local.inside f one) two (side ∙ sym behind)

  -- halves along a chain whose corners the map has, there and back, are tied together
  pub chain-strung : (h : Half) (hs : List Half) (chain : List ℕ) → map (side_by rows) (h ∷ hs) ≡ sides_of_chain chain → AllByRecursion (IsShown m) (h ∷ hs)
      → ((c : Corner) → Contains (corners_of_chain chain) c → HasCorner m c) → ((c : Corner) → Contains (corners_of_chain chain) c → HasCorner m (corner_back c))
      → IsStrung (next rows) h hs
  chain-strung h [] chain e shown along back = tt
  chain-strung h (k ∷ hs) [] e shown along back = cc
  chain-strung h (k ∷ hs) (x ∷ []) e shown along back = cc
  chain-strung h (k ∷ hs) (x ∷ y ∷ []) e shown along back = let none : side_by rows k ∷ map (side_by rows) hs ≡ [] = ap rest_of e in cc
  chain-strung h (k ∷ hs) (x ∷ y ∷ z ∷ points) e shown along back =
      let tied = corner-strung h k shown.0 shown.1.0 x y z (first-side e) (first-side (ap rest_of e))
      (along (corner x y z) (Contains-first (corner x y z) (corners_of_chain (y ∷ z ∷ points)))) (back (corner x y z) (Contains-first (corner x y z) (corners_of_chain (y ∷ z ∷ points)))) in (
        tied.0,
        tied.1,
        chain-strung k hs (y ∷ z ∷ points) (ap rest_of e) shown.1
            (λ c there. along c (Contains-later (corner x y z) (corners_of_chain (y ∷ z ∷ points)) c there))
            (λ c there. back c (Contains-later (corner x y z) (corners_of_chain (y ∷ z ∷ points)) c there)),
      )
    where
      first-side : {s t : Side} {xs ys : List Side} → s ∷ xs ≡ t ∷ ys → s ≡ t
      first-side same = cc

-- the sides of a ring, and then its first once more, are those of a chain
sides-longer : (x : ℕ) (inner : List ℕ) (y z : ℕ) → sides_along x inner y ++ (y, z) ∷ [] ≡ sides_of_chain (x ∷ inner ++ y ∷ z ∷ [])
sides-longer x [] y z = refl
sides-longer x (w ∷ inner) y z = ap (λ (l : List Side). (x, w) ∷ l) (sides-longer w inner y z)

-- a path tied together that comes back to its first half is a ring
strung-round : (nx : Half → Half) (z h : Half) (hs : List Half) → IsStrung nx h (hs ++ z ∷ []) → IsStrung nx h hs × (nx (last_of h hs) ≡ z) × (nx (twin z) ≡ twin (last_of h hs))
strung-round nx z h [] s = (tt, s.0, s.1)
strung-round nx z h (k ∷ hs) s = let more = strung-round nx z k hs s.2 in ((s.0, s.1, more.0), more.1, more.2)

module _ (m : Map) (whole : HasWholeRings m) (rows : HalfRows) (local : IsLocal m rows) where
  all-snoc : (hs : List Half) (z : Half) → AllByRecursion (IsShown m) hs → IsShown m z → AllByRecursion (IsShown m) (hs ++ z ∷ [])
  all-snoc [] z all last = (last, tt)
  all-snoc (h ∷ hs) z all last = (all.0, all-snoc hs z all.1 last)

  -- halves along a ring whose corners the map has, there and back, are tied together to a ring
  pub ring-round : (h : Half) (hs : List Half) (ring : Ring) → 2 ≤ length ring → map (side_by rows) (h ∷ hs) ≡ sides_of ring → AllByRecursion (IsShown m) (h ∷ hs)
      → ((c : Corner) → Contains (corners_of ring) c → HasCorner m c) → ((c : Corner) → Contains (corners_of ring) c → HasCorner m (corner_back c))
      → IsRound (next rows) h hs
  ring-round h hs [] long e shown along back = absurd (omega (arith, long))
  ring-round h hs (a ∷ []) long e shown along back = absurd (omega (arith, long))
  ring-round h hs (a ∷ b ∷ points) long e shown along back =
      let own : side_by rows h ≡ (a, b) = cc in
      let sides : map (side_by rows) (h ∷ hs ++ h ∷ []) ≡ sides_of_chain (a ∷ (b ∷ points) ++ a ∷ b ∷ []) =
      map-append (side_by rows) (h ∷ hs) (h ∷ []) ∙ (λ i. e i ++ own i ∷ []) ∙ sides-longer a (b ∷ points) a b in
      let tied = chain-strung m whole rows local h (hs ++ h ∷ []) (a ∷ (b ∷ points) ++ a ∷ b ∷ []) sides (all-snoc (h ∷ hs) h shown shown.0) along back in
      let round = strung-round (next rows) h h hs tied in
      record { strung = round.0; closes = round.1; returns = round.2 }

-- two lists of sides that are the same: their first ones, and the others
pub first-of : {s t : Side} {xs ys : List Side} → s ∷ xs ≡ t ∷ ys → s ≡ t
first-of same = cc

pub tail-of : {s t : Side} {xs ys : List Side} → s ∷ xs ≡ t ∷ ys → xs ≡ ys
tail-of same = ap rest_of same
