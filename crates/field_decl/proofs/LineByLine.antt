-- Taking the lines of a text into a state is judging each line after all lines before it, where that is so of one line.
use Rattle.std.proofs.Common.{◌≡◌, ℕ, ◌+◌, List, [], ◌∷◌, ◌++◌, length, Result, Ok, Err, refl, sym, ap, ◌∙◌, arith}
use Rattle.std.specs.Prelude.{IfOk}
use Rattle.std.proofs.lemmas.List.{length-append}
use Rattle.field_decl.specs.declared.refusal.LineRefusal.{LineRefusal}
use Rattle.field_decl.specs.declared.refusal.LineRefusal.TheVariants as line_faults
use Rattle.field_decl.specs.declared.refusal.Refusal.{Refusal}
use Rattle.field_decl.specs.declared.refusal.Refusal.TheVariants as faults
use Rattle.field_decl.specs.LineByLine.{lines_read, lines_taken}
use Rattle.field_decl.specs.Results.{◌>>=◌, in_line, Refuses, RefusesAt, fault_at}

-- the sum of what these lines say
abbrev pub summed : {L S K : Type 0} → (List L → S) → List L → Result S K
summed sum said = Ok (sum said)

-- the sum of what the earlier lines and one line more say
abbrev pub summed_with : {L S K : Type 0} → (List L → S) → List L → L → Result S K
summed_with sum earlier said = Ok (sum (earlier ++ said ∷ []))

-- a line is taken into the sum of the earlier ones as it is read after them
abbrev pub TakesAsRead : {L S K : Type 0} → (List L → List ℕ → Result L K) → (S → ℕ → List ℕ → Result S K) → (List L → S) → Type 0
TakesAsRead {L = L} read take sum =
    (earlier : List L) (line : List ℕ) → take (sum earlier) (length earlier + 1) line ≡ (read earlier line >>= summed_with sum earlier)

-- the further lines go on from what a line says, unless it is refused
goes_on : {L S K : Type 0} (read : List L → List ℕ → Result L K) (take : S → ℕ → List ℕ → Result S K) (sum : List L → S)
    (earlier : List L) (rest : List (List ℕ)) (number : ℕ)
    → ((said : L) → lines_taken take (sum (earlier ++ said ∷ [])) (number + 1)
    rest ≡ (lines_read read (earlier ++ said ∷ []) rest >>= summed sum))
    → (one : Result L K)
    → (in_line number (one >>= summed_with sum earlier) >>= λ more. lines_taken take more (number + 1) rest)
    ≡ ((in_line number one >>= λ said. lines_read read (earlier ++ said ∷ []) rest) >>= summed sum)
goes_on read take sum earlier rest number more (Ok said) = more said
goes_on read take sum earlier rest number more (Err kind) = refl

-- all lines are taken as they are read
pub taken_as_read : {L S K : Type 0} (read : List L → List ℕ → Result L K) (take : S → ℕ → List ℕ → Result S K) (sum : List L → S)
    → TakesAsRead read take sum → (earlier : List L) (rest : List (List ℕ))
    → lines_taken take (sum earlier) (length earlier + 1) rest ≡ (lines_read read earlier rest >>= summed sum)
unfolding lines_taken lines_read
taken_as_read read take sum takes earlier [] = refl
taken_as_read {L = L} {S = S} {K = K} read take sum takes earlier (line ∷ rest) =
    ap (λ (r : Result S K). in_line (length earlier + 1) r >>= λ more. lines_taken take more (length earlier + 1 + 1) rest)
    (takes earlier line)
    ∙ goes_on read take sum earlier rest (length earlier + 1)
    (λ said. ap (λ (k : ℕ). lines_taken take (sum (earlier ++ said ∷ [])) k rest) (omega (arith, length-append earlier (said ∷ [])))
    ∙ taken_as_read read take sum takes (earlier ++ said ∷ []) rest) (read earlier line)

-- the sum is finished
finished : {L S D K : Type 0} (sum : List L → S) (finish : S → Result D (ℕ × K)) (read : Result (List L) (ℕ × K))
    → (read >>= λ all. finish (sum all)) ≡ ((read >>= summed sum) >>= finish)
finished sum finish (Ok all) = refl
finished sum finish (Err refused) = refl

-- a text means what its lines make one after the other, finished
pub text_is : {L S D K : Type 0} (read : List L → List ℕ → Result L K) (take : S → ℕ → List ℕ → Result S K) (sum : List L → S)
    (finish : S → Result D (ℕ × K)) → TakesAsRead read take sum → (all : List (List ℕ))
    → (lines_read read [] all >>= λ said. finish (sum said)) ≡ (lines_taken take (sum []) 1 all >>= finish)
text_is {S = S} {K = K} read take sum finish takes all =
    finished sum finish (lines_read read [] all)
    ∙ ap (λ (r : Result S (ℕ × K)). r >>= finish) (sym (taken_as_read read take sum takes [] all))

-- ---- what is read

-- the lines go on from a line that is read
keeps_on : {L K : Type 0} (read : List L → List ℕ → Result L K) (P : List L → Type 0) (earlier : List L) (rest : List (List ℕ))
    (number : ℕ) (one : Result L K) → ((said : L) → P (earlier ++ said ∷ []) → IfOk (lines_read read (earlier ++ said ∷ []) rest) P)
    → IfOk one (λ said. P (earlier ++ said ∷ [])) → IfOk (in_line number one >>= λ said. lines_read read (earlier ++ said ∷ []) rest) P
keeps_on read P earlier rest number (Ok said) more h = more said h
keeps_on read P earlier rest number (Err kind) more h = tt

-- what holds of the earlier lines, and so with each line that is read after them, holds of all lines
pub read_keeps : {L K : Type 0} (read : List L → List ℕ → Result L K) (P : List L → Type 0)
    → ((earlier : List L) (line : List ℕ) → P earlier → IfOk (read earlier line) (λ said. P (earlier ++ said ∷ [])))
    → (earlier : List L) (rest : List (List ℕ)) → P earlier → IfOk (lines_read read earlier rest) P
unfolding lines_read
read_keeps read P keeps earlier [] h = h
read_keeps read P keeps earlier (line ∷ rest) h =
    keeps_on read P earlier rest (length earlier + 1) (read earlier line)
    (λ said k. read_keeps read P keeps (earlier ++ said ∷ []) rest k) (keeps earlier line h)

-- ---- what is refused

-- what refuses the first of some lines refuses them all
pub refused_line : {S K : Type 0} (take : S → ℕ → List ℕ → Result S K) (fault : LineRefusal K) (state : S) (number : ℕ)
    (line : List ℕ) (rest : List (List ℕ)) → Refuses fault (take state number line)
    → RefusesAt (fault_at number fault) (lines_taken take state number (line ∷ rest))
unfolding lines_taken
refused_line take line_faults.OutOfMemory state number line rest h = tt
refused_line {S = S} {K = K} take (line_faults.Kind kind) state number line rest h =
    ap (λ (r : Result S K). in_line number r >>= λ more. lines_taken take more (number + 1) rest) h

-- what refuses a line refuses the text
pub refused_text : {S D K : Type 0} (finish : S → Result D (ℕ × K)) (fault : Refusal K) (taken : Result S (ℕ × K))
    (meant : Result D (ℕ × K)) → meant ≡ (taken >>= finish) → RefusesAt fault taken → RefusesAt fault meant
refused_text finish faults.OutOfMemory taken meant is h = tt
refused_text {S = S} {K = K} finish (faults.At line kind) taken meant is h = is ∙ ap (λ (r : Result S (ℕ × K)). r >>= finish) h
