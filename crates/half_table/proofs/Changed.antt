-- A change of one half's links in the rows.
use Rattle.std.specs.Map.{values_of}
use Rattle.indexmap.specs.Layout.{set_value_at}
use Rattle.number_table.specs.Rows.{AreDistinct, HasNumberAt}
use Rattle.number_table.proofs.Found.{read-at}
use Rattle.number_table.proofs.Changed.{numbers-set}
use Rattle.number_table.proofs.CallerLemmas.{updates-set}
use Rattle.std.proofs.Common.{◌≡◌, ℕ, Bool, true, false, cond, ◌&&◌, refl, sym, ap, ◌∙◌, subst, Option, Some, is_some, option_map, inl, inr, true≢false, nat_eq, if◌then◌else◌, slice_get}
use Rattle.std.proofs.lemmas.Bool.Decides.{Decides-eqb}
use Rattle.std.specs.Bool.{beq}
use Rattle.std.specs.Map.{lookup}
use Rattle.std.specs.Option.{option_map_or}
use Rattle.cad_rows.specs.declared.names.Face.{Face}
use Rattle.cad_rows.specs.declared.names.Face.TheVariants.{Outside}
use Rattle.half_table.specs.declared.half.Half.{Half}
use Rattle.half_table.specs.declared.links.Links.{Links}
use Rattle.half_table.specs.declared.links.Ends.{Ends}
use Rattle.half_table.specs.Half.{is_half}
use Rattle.half_table.specs.Rows.{HalfRows, links_at, links_of, strings}
use Rattle.half_table.specs.Writes.{changed_at, with_links_at, ChangesLinks, ChangesNext, ChangesPrev, ChangesFace, Relinks}
use Rattle.half_table.proofs.Halves.{is_half-self, cases_half}

-- the links on the other side stay
side : (f g : Bool) (to : Links) (e : Ends) → Some (links_at g (with_links_at f to e)) ≡ (if beq g f then Some to else Some (links_at g e))
side true true to e = refl
side true false to e = refl
side false true to e = refl
side false false to e = refl

pub changed-put : (old new : HalfRows) (h : Half) (to : Links) (e : Ends) → lookup (nat_eq h.string) old ≡ Some e
    → ((q : ℕ) → lookup (nat_eq q) new ≡ cond (nat_eq h.string q) (Some (with_links_at h.forward to e)) (lookup (nat_eq q) old))
    → (g : Half) → links_of new g ≡ changed_at h to (links_of old) g
changed-put old new h to e there put g = by (nat_eq h.string g.string) refl
  where
    by : (b : Bool) → nat_eq h.string g.string ≡ b → links_of new g ≡ changed_at h to (links_of old) g
    by true p =
        let same : h.string ≡ g.string = (Decides-eqb h.string g.string).0 p in
        let back : nat_eq g.string h.string ≡ true = (Decides-eqb g.string h.string).1 (sym same) in
        let now : lookup (nat_eq g.string) new ≡ Some (with_links_at h.forward to e) = put g.string ∙ ap (λ b. cond b (Some (with_links_at h.forward to e)) (lookup (nat_eq g.string) old)) p in
        let was : lookup (nat_eq g.string) old ≡ Some e = subst (λ s. lookup (nat_eq s) old ≡ Some e) same there in
        ap (option_map (links_at g.forward)) now ∙ side h.forward g.forward to e
        ∙ ap (λ o. if beq g.forward h.forward then Some to else option_map (links_at g.forward) o) (sym was)
        ∙ ap (λ b. if b && beq g.forward h.forward then Some to else links_of old g) (sym back)
    by false p =
        let back : nat_eq g.string h.string ≡ false = turned (nat_eq g.string h.string) refl in
        ap (option_map (links_at g.forward)) (put g.string ∙ ap (λ b. cond b (Some (with_links_at h.forward to e)) (lookup (nat_eq g.string) old)) p)
        ∙ ap (λ b. if b && beq g.forward h.forward then Some to else links_of old g) (sym back)
      where
        turned : (b : Bool) → nat_eq g.string h.string ≡ b → nat_eq g.string h.string ≡ false
        turned true q = absurd (true≢false (sym ((Decides-eqb h.string g.string).1 (sym ((Decides-eqb g.string h.string).0 q))) ∙ p))
        turned false q = q

-- ends that are written anew change the links of one half
pub written : (old new : HalfRows) (h : Half) (to : Links) (e : Ends) → lookup (nat_eq h.string) old ≡ Some e
    → ((q : ℕ) → lookup (nat_eq q) new ≡ cond (nat_eq h.string q) (Some (with_links_at h.forward to e)) (lookup (nat_eq q) old))
    → strings new ≡ strings old → ChangesLinks h to old new
written old new h to e there put same = record { strings = same; links = changed-put old new h to e there put }

-- the links of a half, and others in their place
abbrev pub Writes : HalfRows → HalfRows → Half → Links → Links → Type 0
Writes old new h l to = (links_of old h ≡ Some l) × ChangesLinks h to old new

-- the links of a half are written where its string stands
pub written-at : (rows : HalfRows) (h : Half) (now put : Ends) (to : Links) (place : ℕ) → AreDistinct rows
    → HasNumberAt rows place h.string → slice_get (values_of rows) place ≡ Some now → put ≡ with_links_at h.forward to now
    → ChangesLinks h to rows (set_value_at rows place put)
written-at rows h now put to place unique has value is =
    written rows _ h to now (sym (read-at rows place h.string unique has) ∙ value)
    (λ q. updates-set rows place h.string has unique put q ∙ ap (λ (x : Ends). cond (nat_eq h.string q) (Some x) (lookup (nat_eq q) rows)) is)
    (numbers-set rows place put)

module _ {old new : HalfRows} {h : Half} {l to : Links} (w : Writes old new h l to) where
  -- what the change leaves
  left : {V : Type 0} (F : Option Links → V) (g : Half) → F (Some to) ≡ F (Some l) → F (links_of new g) ≡ F (links_of old g)
  left F g same =
      elim (cases_half g h) [
        | inl e ↦ ap F (w.1.links g) ∙ ap (λ b. F (if b then Some to else links_of old g)) (subst (λ x. is_half g x ≡ true) e (is_half-self g)) ∙ same
            ∙ ap F (sym w.0) ∙ ap (λ x. F (links_of old x)) (sym e)
        | inr ne ↦ ap F (w.1.links g) ∙ ap (λ b. F (if b then Some to else links_of old g)) ne
      ]

  push : {V : Type 0} (F : Option Links → V) (b : Bool) (x : Option Links) → F (if b then Some to else x) ≡ (if b then F (Some to) else F x)
  push F true x = refl
  push F false x = refl

  -- what it changes
  made : {V : Type 0} (F : Option Links → V) (g : Half) → F (links_of new g) ≡ (if is_half g h then F (Some to) else F (links_of old g))
  made F g = ap F (w.1.links g) ∙ push F (is_half g h) (links_of old g)

abbrev next_at : Half → Option Links → Half
next_at g o = option_map_or (λ l. l.next) o g

abbrev prev_at : Half → Option Links → Half
prev_at g o = option_map_or (λ l. l.prev) o g

abbrev origin_at : Option Links → ℕ
origin_at o = option_map_or (λ l. l.origin) o 0

abbrev face_at : Option Links → Face
face_at o = option_map_or (λ l. l.face) o Outside

module _ (old new : HalfRows) (h : Half) (l : Links) where
  pub next-put : (to : Half) → Writes old new h l (record l { next = to }) → ChangesNext h to old new
  next-put to w = record { strings = w.1.strings; has = λ g. left w is_some g refl; next = λ g. made w (next_at g) g; prev = λ g. left w (prev_at g) g refl; origin = λ g. left w origin_at g refl; face = λ g. left w face_at g refl }

  pub prev-put : (to : Half) → Writes old new h l (record l { prev = to }) → ChangesPrev h to old new
  prev-put to w = record { strings = w.1.strings; has = λ g. left w is_some g refl; next = λ g. left w (next_at g) g refl; prev = λ g. made w (prev_at g) g; origin = λ g. left w origin_at g refl; face = λ g. left w face_at g refl }

  pub face-put : (to : Face) → Writes old new h l (record l { face = to }) → ChangesFace h to old new
  face-put to w = record { strings = w.1.strings; has = λ g. left w is_some g refl; next = λ g. left w (next_at g) g refl; prev = λ g. left w (prev_at g) g refl; origin = λ g. left w origin_at g refl; face = λ g. made w face_at g }

  pub links-put : (before after : Half) (to : Face) → Writes old new h l (record { origin = l.origin; next = after; prev = before; face = to }) → Relinks h before after to old new
  links-put before after to w = record { strings = w.1.strings; has = λ g. left w is_some g refl; next = λ g. made w (next_at g) g; prev = λ g. made w (prev_at g) g; origin = λ g. left w origin_at g refl; face = λ g. made w face_at g }
