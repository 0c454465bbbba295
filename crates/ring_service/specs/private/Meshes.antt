-- Meshes: the inboxes of the workers, and their senders that are not handed out yet.
use Rattle.std.specs.Prelude.{◌≡◌, ◌<◌, ℕ, List, [], ◌∷◌, ◌++◌, length, map, slice_index_or, Vec}
use Rattle.std.specs.List.{range_with_len}
use Rattle.std.specs.Global.{Global}
use Rattle.ring_inbox.specs.Values.{ReceiverLog, SenderLog, fresh_sender}

-- nothing was taken of the inbox, and no sender was heard
abbrev pub IsFresh : {T : Type 0} → ReceiverLog T → Type 0
IsFresh receiver = (receiver.taken ≡ []) × (receiver.heard ≡ [])

-- each inbox has `left` senders left, numbered from 0, which stored nothing
abbrev pub SendersOf : {T : Type 0} → ℕ → List (ReceiverLog T) → List (Vec (SenderLog T) Global)
    → Type 0
SendersOf {T} left receivers senders =
    (v : ℕ) (receiver : ReceiverLog T) (own : Vec (SenderLog T) Global) → v < length receivers →
    (slice_index_or senders v own).items
    ≡ map (fresh_sender (slice_index_or receivers v receiver).inbox) (range_with_len 0 left)

-- of each list the last element was taken
abbrev pub LastsOf : {A : Type 0} → List (Vec A Global) → List (Vec A Global) → List A → Type 0
LastsOf {A} old new taken = (v : ℕ) (list : Vec A Global) (last : A) → v < length old →
    (slice_index_or old v list).items
    ≡ (slice_index_or new v list).items ++ slice_index_or taken v last ∷ []
