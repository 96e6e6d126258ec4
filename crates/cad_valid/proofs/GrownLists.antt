-- A list that grows by what stands for each element of another.
use Rattle.std.proofs.Common.{◌≡◌, ℕ, ◌+◌, List, [], ◌∷◌, ◌++◌, map, take, slice_get, Some, sym, ap, ◌∙◌, append_assoc}
use Rattle.std.proofs.lemmas.List.{map_more}
use Rattle.std.proofs.lemmas.Option.{slice_get_within, get_or_from_slice_get}

pub grown : {X Y : Type 0} (f : X → Y) (xs : List X) (i : ℕ) (x : X) (front old new : List Y) (y : Y)
    → slice_get xs i ≡ Some x → old ≡ front ++ map f (take i xs) → y ≡ f x → new ≡ old ++ y ∷ []
    → new ≡ front ++ map f (take (i + 1) xs)
grown f xs i x front old new y at is_old is_y is_new =
    let joined : (front ++ map f (take i xs)) ++ f x ∷ [] ≡ front ++ (map f (take i xs) ++ f x ∷ []) = simp append_assoc in
    let more = map_more f xs i x (slice_get_within xs i x at) ∙ ap (λ z. map f (take i xs) ++ f z ∷ []) (get_or_from_slice_get xs i x x at) in
    is_new ∙ (λ j. is_old j ++ is_y j ∷ []) ∙ joined ∙ ap (λ l. front ++ l) (sym more)
