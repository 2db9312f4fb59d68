-- A pass over an inbox: the fold of a reader is the fold over the inbox's messages; and what each message keeps a pass keeps. Assumes nothing.
use Rattle.std.proofs.Common.{◌≡◌, ℕ, List, [], ◌∷◌, ap}
use Rattle.std.proofs.lemmas.Iterator.Consumers.{fold_from_yields_List, YieldsList-from_first}
use Rattle.std.specs.Borrow.{Bor}
use Rattle.std.specs.Fn.{Called}
use Rattle.std.specs.Iterator.{YieldsFirst, FoldsItems}
use denote.Param.Members.{Mut}
use Rattle.inbox.specs.declared.reader.Reader.{Reader}
use Rattle.inbox.specs.Inbox.{Reading, messages_of}
use Rattle.inbox.specs.Passes.{over}
use Rattle.inbox.specs.Reader.{reader_at, left_in}

-- a reader of an inbox that is folded by a closure f, whose calls keep it and give what h gives
pub passed : {A F : Type 0} (g : Mut F (A × (Reading × Unit {0})) A) (h : A → Reading → A) {f : F} (start last : A) {words : Bor (List ℕ)} {r : Reader}
    → r ≡ reader_at words 0 → FoldsItems (YieldsFirst left_in) g r f start last
    → ((a : A) (m : Reading) (b : A) (f' : F) → Called g f (a, (m, tt)) b f' → (f' ≡ f) × (b ≡ h a m)) → last ≡ over h start (messages_of words.now)
passed g h start last e ran gives = fold_from_yields_List g h start last ran (YieldsList-from_first (λ m. m) left_in _ (ap left_in e)) gives

-- P holds of each message of a list
abbrev pub Each : (Reading → Type 0) → List Reading → Type 0
Each P [] = Unit {0}
Each P (m ∷ ms) = P m × Each P ms

-- what each message keeps a pass keeps
pub over_keeps : {A : Type 0} {P : Reading → Type 0} (K : A → Type 0) (g : A → Reading → A) → ((a : A) (m : Reading) → P m → K a → K (g a m))
    → (a : A) (ms : List Reading) → Each P ms → K a → K (over g a ms)
over_keeps K g h a [] ps k = k
over_keeps K g h a (m ∷ ms) ps k = over_keeps K g h (g a m) ms ps.1 (h a m ps.0 k)
