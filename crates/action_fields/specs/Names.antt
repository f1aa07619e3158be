-- The names of fields, as forms have them.
use Rattle.std.specs.Prelude.{ℕ, List, codes}
use Rattle.action_fields.specs.declared.form_field.FormField.{FormField}
use Rattle.action_fields.specs.declared.form_field.FormField.TheVariants as field

-- the name of a field
unfoldable pub field_name : FormField → List ℕ
field_name field.Name = codes "name"
field_name field.Password = codes "password"
field_name field.Page = codes "page"
field_name field.Title = codes "title"
field_name field.Category = codes "category"
field_name field.Start = codes "start"
field_name field.BuyNow = codes "buy_now"
field_name field.Hours = codes "hours"
field_name field.Item = codes "item"
field_name field.Amount = codes "amount"
field_name field.Good = codes "good"
field_name field.Text = codes "text"
field_name field.Token = codes "token"
