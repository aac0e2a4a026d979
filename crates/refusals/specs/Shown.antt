-- What a refusal tells, and its text.
-- Assumes nothing.
use Rattle.std.specs.Prelude.{ℕ, List, ◌++◌, codes, decimal}
use Rattle.rules.specs.Refusals as rules
use Rattle.refusals.specs.declared.layer.Layer.{Layer}
use Rattle.refusals.specs.declared.layer.Layer.TheVariants.{Kind, Sheet, Store, Calendar, Channel, Site, Ring, Lists, Mailbox}
use Rattle.refusals.specs.declared.refusal.Refusal.{Refusal}

-- the code's layers are those of the rules
abbrev pub layer_of : rules.Layer → Layer
layer_of rules.kind = Kind
layer_of rules.sheet = Sheet
layer_of rules.store = Store
layer_of rules.calendar = Calendar
layer_of rules.channel = Channel
layer_of rules.site = Site
layer_of rules.ring = Ring
layer_of rules.lists = Lists
layer_of rules.mailbox = Mailbox

-- what is told of a refusal: number, carried number, layer
abbrev pub told : rules.Refusal → Refusal
told x = record { number = x.number; carried = x.carried; layer = layer_of x.layer }

abbrev pub layer_text : Layer → List ℕ
layer_text Kind = codes "kind"
layer_text Sheet = codes "sheet"
layer_text Store = codes "store"
layer_text Calendar = codes "calendar"
layer_text Channel = codes "channel"
layer_text Site = codes "site"
layer_text Ring = codes "ring"
layer_text Lists = codes "lists"
layer_text Mailbox = codes "mailbox"

-- as: refusal 2 (7) by kind
abbrev pub refusal_text : Refusal → List ℕ
refusal_text x =
    codes "refusal " ++ (decimal x.number ++ (codes " (" ++ (decimal x.carried ++ (codes ") by " ++ layer_text x.layer))))

-- as: refusal 2 (7) by kind: the line is not 1 to 999
abbrev pub ground_text : rules.Refusal → List ℕ → List ℕ
ground_text x words = refusal_text (told x) ++ (codes ": " ++ words)
