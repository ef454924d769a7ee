pub mod ClassRules
