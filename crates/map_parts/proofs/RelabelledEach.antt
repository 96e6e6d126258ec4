-- Cycles relabelled one after another.
use Rattle.std.proofs.Common.{◌≡◌, ◌+◌, Bool, true, false, ◌||◌, List, [], ◌∷◌, length, refl, ◌∙◌, if◌then◌else◌}
use Rattle.std.specs.List.{list_any}
use Rattle.cad_rows.specs.declared.names.Face.{Face}
use Rattle.half_table.specs.declared.half.Half.{Half}
use Rattle.half_table.specs.Cycle.{holds, orbit}
use Rattle.half_table.specs.Rows.{HalfRows, strings, halves_of, has, next, face, cycle}
use Rattle.half_table.specs.Surgery.{KeepsHalves, Relabels}
use Rattle.half_paths.specs.Path.{AreIn}
use Rattle.map_parts.specs.Handing.{KeepsEnds}
use Rattle.map_parts.specs.Relabelled.{on_cycles, cycles_length, RelabelsEach}

-- where the strings and what follows what are the same, so are the cycles
pub cycle-same : (old new : HalfRows) → strings new ≡ strings old → ((g : Half) → next new g ≡ next old g) → cycle new ≡ cycle old
cycle-same old new numbers links = λ i h. h ∷ orbit (λ g. links g i) (length (halves_of (numbers i))) h (links h i)

pub each-none : (to : Face) (rows : HalfRows) → RelabelsEach [] to rows rows
each-none to rows = record { strings = refl; has = λ g. refl; next = λ g. refl; prev = λ g. refl; origin = λ g. refl; face = λ g. refl }

-- one cycle, and then the others
pub each-more : (h : Half) (hs : List Half) (to : Face) (old mid new : HalfRows) → Relabels (cycle old h) to old mid → RelabelsEach hs to mid new → RelabelsEach (h ∷ hs) to old new
each-more h hs to old mid new one all = record {
  strings = all.strings ∙ one.strings;
  has = λ g. all.has g ∙ one.has g;
  next = λ g. all.next g ∙ one.next g;
  prev = λ g. all.prev g ∙ one.prev g;
  origin = λ g. all.origin g ∙ one.origin g;
  face = λ g.
      all.face g ∙ (λ i. if on_cycles_same g i then to else one.face g i)
      ∙ either (holds (cycle old h) g) (on_cycles old hs g) (face old g);
}
  where
    on_cycles_same : (g : Half) → on_cycles mid hs g ≡ on_cycles old hs g
    on_cycles_same g = λ i. list_any (λ k. holds (cycle-same old mid one.strings one.next i k) g) hs

    either : (p q : Bool) (x : Face) → (if q then to else (if p then to else x)) ≡ (if p || q then to else x)
    either true true x = refl
    either true false x = refl
    either false true x = refl
    either false false x = refl

-- all halves stay, each with its origin, where two cycles get a face after a change of what follows what
pub both-ends : {h k : List Half} {f e : Face} {old new mid done : HalfRows} → KeepsHalves old new → Relabels h f new mid → Relabels k e mid done → KeepsEnds old done
both-ends halves one two = record { has = λ g. two.has g ∙ one.has g ∙ halves.has g; origin = λ g. two.origin g ∙ one.origin g ∙ halves.origin g }

-- where many cycles do
pub each-ends : {hs : List Half} {to : Face} {old new : HalfRows} → RelabelsEach hs to old new → KeepsEnds old new
each-ends all = record { has = all.has; origin = all.origin }

-- and after two changes that keep them
pub ends-then : {old mid new : HalfRows} → KeepsEnds old mid → KeepsEnds mid new → KeepsEnds old new
ends-then one two = record { has = λ g. two.has g ∙ one.has g; origin = λ g. two.origin g ∙ one.origin g }

pub in-relabelled : (old new : HalfRows) (hs : List Half) → ((g : Half) → has new g ≡ has old g) → AreIn old hs → AreIn new hs
in-relabelled old new [] same all = tt
in-relabelled old new (h ∷ hs) same all = (same h ∙ all.0, in-relabelled old new hs same all.1)

pub length-same : (old new : HalfRows) (hs : List Half) → strings new ≡ strings old → ((g : Half) → next new g ≡ next old g) → cycles_length new hs ≡ cycles_length old hs
length-same old new [] numbers links = refl
length-same old new (h ∷ hs) numbers links = λ i. length (cycle-same old new numbers links i h) + length-same old new hs numbers links i
