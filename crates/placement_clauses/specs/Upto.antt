-- Lists made number by number.
use Rattle.std.specs.Prelude.{ℕ, zero, suc, ◌+◌, ◌-◌, nat_lt, if◌then◌else◌, List, [], ◌++◌, length, slice_get}
use Rattle.std.specs.Option.{option_map_or}

-- the list f 0 ++ f 1 ++ .. ++ f (n - 1)
unfoldable pub upto : {A : Type 0} → ℕ → (ℕ → List A) → List A
upto zero f = []
upto (suc n) f = upto n f ++ f n

-- f a ++ .. ++ f (b - 1)
abbrev pub between : {A : Type 0} → ℕ → ℕ → (ℕ → List A) → List A
between a b f = upto (b - a) (λ k. f (a + k))

-- the list f i x where x is the element at place i
abbrev pub at_place : {X A : Type 0} → List X → (ℕ → X → List A) → ℕ → List A
at_place xs f i = option_map_or (f i) (slice_get xs i) []

-- the list f 0 x ++ f 1 y ++ .. for the elements x, y, ..
abbrev pub each_of : {X A : Type 0} → List X → (ℕ → X → List A) → List A
each_of xs f = upto (length xs) (at_place xs f)

-- f 0, f 1, .., f (n - 1), and then h 0, h 1, ..
unfoldable pub joined : {A : Type 0} → ℕ → (ℕ → A) → (ℕ → A) → ℕ → A
joined n f h k = if nat_lt k n then f k else h (k - n)
