pub mod OnePage
