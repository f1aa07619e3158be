-- The parts of the auction site.
use Rattle.std.specs.Prelude.{ℕ, Bool, true, false, List, [], ◌∷◌, codes}
use Rattle.deployment.specs.declared.parts.ComponentPart.{ComponentPart}
use Rattle.deployment.specs.declared.parts.Parts.{Parts}
use Rattle.deployment.specs.declared.parts.Reference.{Reference}
use Rattle.deployment.specs.declared.parts.TablePart.{TablePart}
use Rattle.deployment.specs.Parts.{one_call}
use Rattle.auction_rows.specs.declared.components.TheConstants.{WEB, USERS, NUMBERS, ITEMS, CATEGORIES, BIDS, PURCHASES, FEEDBACK}
use Rattle.auction_rows.specs.declared.rows.TheConstants.{USER_TABLE, NAME_TABLE, COUNTER_TABLE, ITEM_TABLE, CATEGORY_TABLE, BID_TABLE, ENTRY_TABLE, FEEDBACK_TABLE, OWN_ITEM_TABLE}

-- a component with one idempotent method `call`
abbrev pub caller : List ℕ → ComponentPart
caller name = record { name = name; methods = one_call }

-- Purchases: its method `call` may be called again, and its method `buy` may not
abbrev pub purchases : ComponentPart
purchases = record {
  name = codes "Purchases";
  methods = record { name = codes "call"; idempotent = true } ∷ record { name = codes "buy"; idempotent = false } ∷ [];
}

-- one component calls another
abbrev pub reference : ℕ → ℕ → Bool → Reference
reference from to hard = record { from = record { 0 = from }; to = record { 0 = to }; hard = hard }

-- a component owns a table
abbrev pub table : ℕ → ℕ → TablePart
table number owner = record { table = number; owner = record { 0 = owner } }

-- the components of the site, each of which has the number of those before it
unfoldable pub site_components : List ComponentPart
site_components =
    caller (codes "Web") ∷ caller (codes "Users") ∷ caller (codes "Numbers") ∷ caller (codes "Items")
    ∷ caller (codes "Categories") ∷ caller (codes "Bids") ∷ purchases ∷ caller (codes "Feedback") ∷ []

-- Web may call each other one; Bids and Purchases need Items; Feedback needs Users, and may call Items
unfoldable pub site_references : List Reference
site_references =
    reference WEB USERS false ∷ reference WEB NUMBERS false ∷ reference WEB ITEMS false
    ∷ reference WEB CATEGORIES false ∷ reference WEB BIDS false ∷ reference WEB PURCHASES false
    ∷ reference WEB FEEDBACK false ∷ reference BIDS ITEMS true ∷ reference PURCHASES ITEMS true
    ∷ reference FEEDBACK USERS true ∷ reference FEEDBACK ITEMS false ∷ []

-- who owns the tables
unfoldable pub site_tables : List TablePart
site_tables =
    table USER_TABLE USERS ∷ table NAME_TABLE USERS ∷ table COUNTER_TABLE NUMBERS
    ∷ table ITEM_TABLE ITEMS ∷ table ENTRY_TABLE ITEMS ∷ table OWN_ITEM_TABLE ITEMS
    ∷ table CATEGORY_TABLE CATEGORIES ∷ table BID_TABLE BIDS ∷ table FEEDBACK_TABLE FEEDBACK ∷ []

-- The parts of the site.
abbrev pub site_parts : Parts
site_parts = record {
  components = site_components;
  references = site_references;
  tables = site_tables;
}
