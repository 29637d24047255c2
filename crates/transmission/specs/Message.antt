-- A message as sent: its groups, of which some may be lost on the way (document 01, "The assembler"; ISO 14819-1, clause 9.4).
use Rattle.std.specs.Prelude.{ℕ, suc, ◌≡◌, Bool, true, cond, ◌&&◌, not, List, [], ◌∷◌}
use Rattle.std.specs.Prelude.{Ok}
use Rattle.word.specs.declared.Head.{Head}
use Rattle.word.specs.declared.Word.TheVariants.{Single, First, Later}
use Rattle.word.specs.Kind.{kind_of}
use Rattle.transmission.specs.Reading.{Rules}

-- a group: its word, and whether it arrived
pub record Group : Type 0 where
  pub word : ℕ
  pub arrived : Bool

-- the words of the groups that arrived
unfoldable pub arrived_of : List Group → List ℕ
arrived_of [] = []
arrived_of (g ∷ gs) = cond g.arrived (g.word ∷ arrived_of gs) (arrived_of gs)

-- every group arrived
unfoldable pub whole : List Group → Bool
whole [] = true
whole (g ∷ gs) = g.arrived && whole gs

-- every group was lost
unfoldable pub lost : List Group → Bool
lost [] = true
lost (g ∷ gs) = not g.arrived && lost gs

-- a message: its groups, and the report that they stand for
pub record Message (R : Type 0) : Type 0 where
  pub groups : List Group
  pub report : R

-- later groups with these contents after one of the GSI given: of index ci, without the mark, GSI falling by one to 0
pub data Falling (ci : ℕ) : ℕ → List ℕ → List Group → Type 0 where
  end : Falling ci 0 [] []
  next : {g : Group} {gsi c : ℕ} {cs : List ℕ} {gs : List Group}
      → kind_of g.word ≡ Later ci 0 gsi c → Falling ci gsi cs gs
      → Falling ci (suc gsi) (c ∷ cs) (g ∷ gs)

-- the groups of a well-formed message, and the report that the rules read from them: a single word; or a first group, a later
-- one with the mark, and the others, whose content is not refused. GSI has two bits, so that the later groups are one to four
-- (`at_most_five` in proofs/Formed.antt)
pub data WellFormed {R E : Type 0} (rules : Rules R E) : List Group → R → Type 0 where
  alone : {g : Group} {duration diversion : ℕ} {head : Head}
      → kind_of g.word ≡ Single duration diversion head
      → WellFormed rules (g ∷ []) (rules.single duration diversion head)
  joined : {f g : Group} {ci gsi c : ℕ} {head : Head} {cs : List ℕ} {gs : List Group} {r : R}
      → kind_of f.word ≡ First ci head → kind_of g.word ≡ Later ci 1 gsi c → Falling ci gsi cs gs → rules.multi head (c ∷ cs) ≡ Ok r
      → WellFormed rules (f ∷ g ∷ gs) r

-- a multi-group message of continuity index ci, by its first group
pub data OfIndex (ci : ℕ) : List Group → Type 0 where
  begins : {f : Group} {gs : List Group} {head : Head} → kind_of f.word ≡ First ci head → OfIndex ci (f ∷ gs)
