-- The list under a key gives way to another at its place.
use Rattle.std.proofs.Common.{◌≡◌, ◌≢◌, ◌<◌, ◌∙◌, sym, ap, subst, ℕ, length, [], Some, None, option_map, unwrap_or, slice_get, nat_eq, true, false, ◌⊎◌, inl, inr, Result, Ok, Err}
use Rattle.std.specs.Prelude.{OnErr}
use Rattle.key_lists.specs.Kept.{Kept}
use Rattle.std.specs.Map.{values_of}
use Rattle.std.proofs.Math.Dec.{eqb}
use Rattle.std.proofs.lemmas.Bool.{ne_eqb, eq-eqb}
use Rattle.std.proofs.Common.{refl}
use Rattle.number_table.specs.Rows.{AreDistinct}
use Rattle.number_table.proofs.Found.{read-at}
use Rattle.number_table.proofs.CallerLemmas.{within, updates-set}
use Rattle.std.proofs.lemmas.Bool.Decides.{eqb_tells}
use Rattle.indexmap.specs.Layout.{set_value_at}
use Rattle.key_lists.specs.Held.{Held, list_at, items_at, KeepsOthers, IsSame, NoneAbove, IsUnderAt}

module _ {X : Type 0} where
  pub record IsWritten (old new : Held X) (key : ℕ) (list other : Kept X) : Type 0 where
    pub was : list_at old key ≡ Some list
    pub is : list_at new key ≡ Some other
    pub others : KeepsOthers key old new

  -- a place that is under a key lies within
  pub lies-within : {old held : Held X} (place key : ℕ) → held ≡ old → IsUnderAt old place key → place < length held
  lies-within {old} {held} place key viewed under = within held place key (rw viewed under)

  -- whatever list comes to stand at such a place
  pub written : {old held : Held X} (place key : ℕ) {found : Kept X} → held ≡ old → IsUnderAt old place key
      → slice_get (values_of held) place ≡ Some found → AreDistinct held → (other : Kept X) → IsWritten old (set_value_at held place other) key found other
  written {old} {held} place key viewed under value distinct other =
      let there : IsUnderAt held place key = rw viewed under in
      let now = updates-set held place key there distinct other in
      let same : nat_eq key key ≡ true = eq-eqb key key refl in
      rw (← viewed) (record {
        was = sym (read-at held place key distinct there) ∙ value;
        is = rw same at (now key);
        others = λ q apart. rw (ne_eqb key q apart) at (now q);
      })

  -- with the same items the items under every key are as they were
  pub same-items : {old new : Held X} {key : ℕ} {list other : Kept X} → IsWritten old new key list other
      → other.items ≡ list.items → IsSame old new
  same-items {old} {new} {key} {list} {other} w same q = by (eqb_tells key q)
    where
      by : ((eqb key q ≡ true) × (key ≡ q)) ⊎ ((eqb key q ≡ false) × (key ≢ q)) → items_at new q ≡ items_at old q
      by (inl one) = subst (λ (n : ℕ). items_at new n ≡ items_at old n) one.1 (rw (w.is, w.was) same)
      by (inr apart) = ap (λ o. unwrap_or (option_map (λ (l : Kept X). l.items) o) []) (w.others q apart.1)

  -- no key above all others is given room
  pub none-above : {old held new : Held X} {key : ℕ} {list other : Kept X} (greatest : ℕ)
      → IsWritten old new key list other → held ≡ old → NoneAbove greatest held → NoneAbove greatest new
  none-above {old} {held} {new} {key} {list} greatest w viewed kept q more = by (eqb_tells key q)
    where
      above : NoneAbove greatest old
      above = rw (← viewed) kept

      by : ((eqb key q ≡ true) × (key ≡ q)) ⊎ ((eqb key q ≡ false) × (key ≢ q)) → list_at new q ≡ None
      by (inl one) =
          let there : list_at old q ≡ Some list = subst (λ (n : ℕ). list_at old n ≡ Some list) one.1 w.was in
          absurd (is-some list (sym there ∙ above q more))
        where
          is-some : (list : Kept X) → Some list ≡ None → ⊥
          is-some list h = cc
      by (inr apart) = w.others q apart.1 ∙ above q more

-- what follows where there is an error
pub when-err : {T E : Type 0} (r : Result T E) (P Q : Type 0) → (P → Q) → OnErr r P → OnErr r Q
when-err (Ok x) P Q follows holds = tt
when-err (Err e) P Q follows holds = follows holds
