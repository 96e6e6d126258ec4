-- One record more.
use Rattle.std.proofs.Common.{◌≡◌, ◌∙◌, sym, ap, refl, ℕ, ◌<◌, arith, List, [], ◌∷◌, ◌++◌, Option, Some, None, true, false, inl, inr, length, option_map, ◌≢◌, IfSome}
use Rattle.std.proofs.lemmas.List.Elements.{All-push, All-nil}
use Rattle.csv.specs.Reading.{Reached, ReadRecord, ReadsNext, NextIs, TookRecord, pending_of, default_config, source_of, strip_bom, reader_trim, reader_config, reader_state, is_flexible, names_headers, reader_headers, expected_len, took_first}
use Rattle.csv.specs.declared.reader.Reader.{Reader}
use Rattle.csv.specs.declared.reader.Trim.TheVariants as trim
use Rattle.std.proofs.Common.{ap₂}
use Rattle.csv.specs.Machine.{Read, next_record}
use Rattle.csv.specs.declared.parser.Config.{Config}
use Rattle.csv.specs.declared.parser.State.{State}
use Rattle.csv.specs.declared.parser.State.TheVariants as st
use Rattle.csv.proofs.ReadFacts.{reached-more, rows-more, rows-end}
use Rattle.cad_files.specs.Input.{HasRead, IsWhole, BeginsWith, IsOfOtherLength}

some-pushed : {X : Type 0} (xs : List X) (x : X) → xs ++ x ∷ [] ≡ [] → ⊥
some-pushed [] x none = cc none
some-pushed (y ∷ xs) x none = cc none

-- no length is expected of a first record, so where one is, there was a record before
not-first : {R : Type 0} (rem : R → Option (List ℕ)) (a : Reader R) (expected : ℕ) (text : List ℕ) (rows : List (List (List ℕ)))
    → HasRead rem text rows a → expected_len a ≡ Some expected → 0 < length rows
not-first rem a expected text [] h is = let none = h.fresh refl in let bad : Some expected ≡ None = sym is ∙ none in cc
not-first rem a expected text (r ∷ rows) h is = omega arith

pub has_read-more : {R : Type 0} (rem : R → Option (List ℕ)) (a b : Reader R) (fields : List (List ℕ)) (text : List ℕ) (rows : List (List (List ℕ)))
    → HasRead rem text rows a → ReadRecord rem a b true fields → took_first b ≡ true → is_flexible b ≡ is_flexible a
    → HasRead rem text (rows ++ (fields ∷ [])) b
has_read-more rem a b fields text rows h r first same =
    let lengths = r.5 refl h.strict in
    record {
      trim = r.3 ∙ h.trim;
      ready = inl first;
      config = r.2 ∙ h.config;
      strict = same ∙ h.strict;
      reached = rows-more rem a b fields default_config st.StartRecord text h.reached.0 rows h.config h.reached.1 h.reached.2 r;
      lengths = All-push (λ row. expected_len b ≡ Some (length row)) rows fields (λ k d lt. rw (h.lengths k d lt) at lengths.0) lengths.1;
      fresh = λ none. absurd (some-pushed rows fields none);
    }

pub has_read-end : {R : Type 0} (rem : R → Option (List ℕ)) (a b : Reader R) (fields : List (List ℕ)) (text : List ℕ) (rows : List (List (List ℕ)))
    → HasRead rem text rows a → ReadRecord rem a b false fields → IsWhole text rows
has_read-end rem a b fields text rows h r = (reader_state a, h.reached.0, h.reached.2, rows-end rem a b fields default_config h.reached.0 h.config h.reached.1 r)

-- what a read found begins behind what was read
begins-found : (text rest after : List ℕ) (rows : List (List (List ℕ))) (s s2 : State) (fields : List (List ℕ)) (o : Option Read)
    → Reached default_config st.StartRecord text rows s rest → next_record default_config s [] [] rest ≡ o → NextIs o true fields s2 after → BeginsWith text (rows ++ (fields ∷ []))
begins-found text rest after rows s s2 fields None reached next found = cc found
begins-found text rest after rows s s2 fields (Some p) reached next found =
    (p.1, p.2, rw found.1 (reached-more default_config st.StartRecord s text rest rows p reached next))

begins-next : (text rest : List ℕ) (rows : List (List (List ℕ))) (s s2 : State) (fields : List (List ℕ)) (after : Option (List ℕ))
    → Reached default_config st.StartRecord text rows s rest → ReadsNext default_config s (Some rest) after true fields s2 → BeginsWith text (rows ++ (fields ∷ []))
begins-next text rest rows s s2 fields None reached reads = absurd reads
begins-next text rest rows s s2 fields (Some after) reached reads = begins-found text rest after rows s s2 fields _ reached refl reads

-- a record of another length begins behind those that were read
pub has_read-other : {R : Type 0} (rem : R → Option (List ℕ)) (a b : Reader R) (fields : List (List ℕ)) (expected : ℕ) (text : List ℕ) (rows : List (List (List ℕ)))
    → HasRead rem text rows a → TookRecord rem a b fields → expected_len a ≡ Some expected → expected ≢ length fields → IsOfOtherLength text rows
has_read-other rem a b fields expected text rows h took is_expected other =
    let config = h.config in
    let source = h.reached.1 in (
      fields,
      begins-next text h.reached.0 rows (reader_state a) (reader_state b) fields (pending_of (rem b.rdr) b) h.reached.2 (rw (config, source) at took),
      (λ k d lt. λ same. other (let expects : Some expected ≡ Some (length fields) = sym is_expected ∙ h.lengths k d lt ∙ ap (λ n. Some n) same in cc)),
      not-first rem a expected text rows h is_expected,
    )

pub begins : {R : Type 0} (rem : R → Option (List ℕ)) (text : List ℕ) (rows : List (List (List ℕ))) (a : Reader R) → HasRead rem text rows a → BeginsWith text rows
begins rem text rows a h = (reader_state a, h.reached.0, h.reached.2)

same_read : (a b : Option Read) (p q : Read) → a ≡ b → a ≡ Some p → b ≡ Some q → p ≡ q
same_read a b p q e f g = cc

-- records that begin a text are a front of all its records
pub reached_front : (cfg : Config) (s s1 s2 : State) (xs y1 y2 : List ℕ) (front whole : List (List (List ℕ)))
    → Reached cfg s xs front s1 y1 → Reached cfg s xs whole s2 y2 → next_record cfg s2 [] [] y2 ≡ None → (rest : List (List (List ℕ))) × (whole ≡ front ++ rest)
unfolding Reached
reached_front cfg s s1 s2 xs y1 y2 [] whole h k e = (whole, refl)
reached_front cfg s s1 s2 xs y1 y2 (r ∷ rs) [] h k e =
    absurd (let none : next_record cfg s [] [] xs ≡ None = rw (k.0, k.1) e in let some = h.1 in let bad : Some h.0 ≡ None = sym some ∙ none in cc)
reached_front cfg s s1 s2 xs y1 y2 (r ∷ rs) (q ∷ qs) h k e =
    let p_is : k.0 ≡ h.0 = same_read _ _ k.0 h.0 refl k.1 h.1 in
    let more = reached_front cfg h.0.1 s1 s2 h.0.2 y1 y2 rs qs h.3 (rw p_is at k.3) e in
    (more.0, ap₂ (λ (x : List (List ℕ)) (xs : List (List (List ℕ))). x ∷ xs) (k.2 ∙ ap (λ (p : Read). p.0) p_is ∙ sym h.2) more.1)

pub whole_front : (text : List ℕ) (front whole : List (List (List ℕ))) → BeginsWith text front → IsWhole text whole → (rest : List (List (List ℕ))) × (whole ≡ front ++ rest)
whole_front text front whole h k = reached_front default_config st.StartRecord h.0 k.0 text h.1 k.1 front whole h.2 k.2 k.3

-- a new reader has read nothing
pub has_read-start : {R : Type 0} (rem : R → Option (List ℕ)) (reader : Reader R) (input : Option (List ℕ)) (text : List ℕ)
    → reader_trim reader ≡ trim.None → names_headers reader ≡ false → reader_headers reader ≡ None → reader_config reader ≡ default_config → is_flexible reader ≡ false
    → expected_len reader ≡ None → reader_state reader ≡ st.StartRecord → source_of rem reader ≡ option_map strip_bom input → input ≡ Some text → HasRead rem (strip_bom text) [] reader
unfolding Reached
has_read-start rem reader input text t n h c f x s source e = record {
  trim = t;
  ready = inr (inr (n, h));
  config = c;
  strict = f;
  reached = (strip_bom text, source ∙ ap (λ o. option_map strip_bom o) e, (sym s, refl));
  lengths = All-nil (λ row. expected_len reader ≡ Some (length row));
  fresh = λ _. x;
}

-- what follows of a value that is there
pub if_some : {X : Type 0} {P Q : X → Type 0} (o : Option X) → ((x : X) → P x → Q x) → IfSome o P → IfSome o Q
if_some None follows holds = tt
if_some (Some x) follows holds = follows x holds
